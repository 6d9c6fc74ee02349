use Rattle.std.proofs.Common.{◌≡◌, ◌∙◌, ◌-◌, get_or, arith, length, ap}
use Rattle.std.specs.Prelude.{remove}
use Rattle.std.specs.Vec.{with_items}
use Rattle.std.proofs.lemmas.List.{with_items_is}
use Rattle.std.proofs.lemmas.List.Edits.{length-remove}
use Rattle.sl_instance.specs.Lists.{contents, list_at}
use Rattle.sl_amend.specs.Merits.{held_at, count_at}
use Rattle.sl_amend.specs.Roll.{lists_of, programmes, no_choice}
use Rattle.sl_amend.proofs.Counted.{list_changed, fine_at, own_counted, own_short}
use Rattle.sl_amend.proofs.Edits.{fine-remove, sum_by-remove}
use Rattle.sl_amend.proofs.roll.Roll.drop_choice.Goals as goal

pub returns-clause-roll : goal.returns-clause-roll
returns-clause-roll c =
    let roll = c.args.self.now in
    let app = c.args.app in
    let own = list_at roll.lists.items app in
    let gone = c.remove_at-choice.result in
    let trees = roll.merits.trees.items in
    let h = c.requires.roll in
    let size : length c.remove_at-choice.new.lists ≡ roll.lists.len = omega (arith, c.remove_at-choice.auto.lists, c.deref_mut.ensures.len) in
    let same = with_items_is roll.lists c.remove_at-choice.new.lists size in
    let wrote = ap contents same ∙ (rw c.deref_mut.ensures.value at c.remove_at-choice.ensures.lists) in
    let is : gone ≡ get_or own c.args.at no_choice = rw c.deref_mut.ensures.value at (c.remove_at-choice.ensures.choice no_choice) in
    list_changed roll.merits c.lower.new.self (lists_of roll) (contents (with_items roll.lists c.remove_at-choice.new.lists).items) roll.present.items roll.applicants roll.applications
    (roll.applications - 1) app (remove own c.args.at) h c.requires.known wrote c.lower.ensures.trees
    (fine-remove (programmes roll.merits) own c.args.at c.requires.within (fine_at _ _ _ _ _ app h c.requires.known))
    (omega (arith, length-remove own c.args.at c.requires.within, own_short _ _ _ _ _ app h c.requires.known, c.requires.within))
    (omega (arith, h.few_applications))
    (λ key. let removed = sum_by-remove (count_at trees key) own c.args.at no_choice c.requires.within in
    let lowered : held_at c.lower.new.self key ≡ held_at roll.merits key - count_at trees key (get_or own c.args.at no_choice) = rw is at (c.lower.ensures.held key) in
    omega (arith, lowered, own_counted _ _ _ _ _ app key h c.requires.known, removed))
