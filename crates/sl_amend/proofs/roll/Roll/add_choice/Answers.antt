use Rattle.std.proofs.Common.{◌≡◌, ◌∙◌, ◌+◌, arith, length, ap}
use Rattle.std.specs.Vec.{with_items}
use Rattle.std.proofs.lemmas.List.{with_items_is}
use Rattle.sl_instance.specs.Lists.{contents, list_at}
use Rattle.sl_amend.specs.Applied.{with_choice}
use Rattle.sl_amend.specs.Merits.{count_at}
use Rattle.sl_amend.specs.Roll.{lists_of, programmes}
use Rattle.sl_amend.proofs.Counted.{roll_low, list_changed, fine_at}
use Rattle.sl_amend.proofs.Ordered.{length-with_choice, sum_by-with_choice}
use Rattle.sl_amend.proofs.Fine.{fine-with_choice}
use Rattle.sl_amend.proofs.roll.Roll.add_choice.Goals as goal

pub raise-requires : goal.raise-requires
raise-requires c = roll_low _ _ _ _ _ c.requires.roll

pub returns-in-Ok-clause-roll : goal.returns-in-Ok-clause-roll
returns-in-Ok-clause-roll c =
    let roll = c.args.self.now in
    let app = c.args.app in
    let e = c.args.choice in
    let own = list_at roll.lists.items app in
    let raised = c.in_ok-raise.ensures in
    let size : length c.insert_at.new.lists ≡ roll.lists.len = omega (arith, c.insert_at.auto.lists, c.deref_mut.ensures.len) in
    let same = with_items_is roll.lists c.insert_at.new.lists size in
    let wrote = ap contents same ∙ (rw c.deref_mut.ensures.value at c.in-Ok.ensures.ok) in
    list_changed roll.merits c.raise.new.self (lists_of roll) (contents (with_items roll.lists c.insert_at.new.lists).items) roll.present.items roll.applicants roll.applications (roll.applications + 1) app (with_choice e own)
    c.requires.roll c.requires.known wrote raised.trees
    (fine-with_choice (programmes roll.merits) e own (fine_at _ _ _ _ _ app c.requires.roll c.requires.known) c.requires.addable)
    (omega (arith, length-with_choice e own)) (omega (arith, c.requires.room))
    (λ key. omega (arith, raised.ok key, sum_by-with_choice (count_at roll.merits.trees.items key) e own))
