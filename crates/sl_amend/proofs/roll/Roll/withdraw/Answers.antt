use Rattle.std.proofs.Common.{Vec, Global, ◌≡◌, ◌∙◌, ◌<◌, ◌-◌, List, [], set, arith, length, ap}
use Rattle.std.specs.Vec.{with_items}
use Rattle.std.proofs.lemmas.List.{with_items_is}
use Rattle.sl_types.specs.declared.kinds.Entry.{Entry}
use Rattle.sl_instance.specs.Lists.{contents, list_at}
use Rattle.sl_amend.specs.Merits.{held_at, count_in}
use Rattle.sl_amend.specs.Roll.{lists_of, programmes}
use Rattle.sl_amend.proofs.Counted.{list_changed, own_counted, own_short, one_left}
use Rattle.sl_amend.proofs.Edits.{fine-none}
use Rattle.sl_amend.proofs.roll.Roll.withdraw.Goals as goal

pub returns-clause-roll : goal.returns-clause-roll
returns-clause-roll c =
    let roll = c.args.self.now in
    let app = c.args.app in
    let own = list_at roll.lists.items app in
    let trees = roll.merits.trees.items in
    let h = c.requires.roll in
    let found : c.list_at-list.result.now ≡ own = c.list_at-list.ensures ∙ ap (λ (ls : List (Vec Entry Global)). list_at ls app) c.deref.ensures.value in
    let size : length c.clear_at.new.lists ≡ roll.lists.len = omega (arith, c.clear_at.auto.lists, c.deref_mut.ensures.len) in
    let same = with_items_is roll.lists c.clear_at.new.lists size in
    let wrote : contents (with_items roll.lists c.clear_at.new.lists).items ≡ set (lists_of roll) app [] =
    ap contents same ∙ (rw c.deref_mut.ensures.value at c.clear_at.ensures) in
    let count : length c.list_at-list.result.now ≡ length own = ap (λ (es : List Entry). length es) found in
    let here : app < length roll.present.items = omega (arith, h.each, c.requires.known) in
    one_left c.lower_all.new.self _ roll.present.items roll.applicants (roll.applications - length c.list_at-list.result.now) app
    (list_changed roll.merits c.lower_all.new.self (lists_of roll) (contents (with_items roll.lists c.clear_at.new.lists).items) roll.present.items roll.applicants roll.applications
    (roll.applications - length c.list_at-list.result.now) app [] h c.requires.known wrote c.lower_all.ensures.trees
    (fine-none (programmes roll.merits))
    (omega (arith, count, own_short _ _ _ _ _ app h c.requires.known)) (omega (arith, h.few_applications))
    (λ key. let down : held_at c.lower_all.new.self key ≡ held_at roll.merits key - count_in trees key own = rw found at (c.lower_all.ensures.held key) in
    omega (arith, down, own_counted _ _ _ _ _ app key h c.requires.known)))
    here c.requires.here
