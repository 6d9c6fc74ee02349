use Rattle.std.proofs.Common.{Vec, Global, length-set, ◌≡◌, ◌∙◌, ◌+◌, ◌-◌, List, set, get_or, arith, length, ap}
use Rattle.std.specs.Vec.{with_items}
use Rattle.std.proofs.lemmas.List.{with_items_is}
use Rattle.std.proofs.lemmas.List.Sums.{sum_by-set, get_or-le-sum_by}
use Rattle.sl_types.specs.declared.kinds.Entry.{Entry}
use Rattle.sl_instance.specs.Lists.{contents, list_at}
use Rattle.sl_amend.specs.Merits.{held_at, count_at}
use Rattle.sl_amend.specs.Roll.{lists_of, programmes, no_choice, scored_at}
use Rattle.sl_amend.proofs.Counted.{roll_low, list_changed, fine_at, own_counted}
use Rattle.sl_amend.proofs.Edits.{fine-scored}
use Rattle.sl_amend.proofs.roll.Roll.rescore.Goals as goal

pub raise-requires : goal.raise-requires
raise-requires c = roll_low _ _ _ _ _ c.requires.roll

pub returns-clause-roll : goal.returns-clause-roll
returns-clause-roll c =
    let roll = c.args.self.now in
    let app = c.args.app in
    let at = c.args.at in
    let own = list_at roll.lists.items app in
    let trees = roll.merits.trees.items in
    let h = c.requires.roll in
    let old = get_or own at no_choice in
    let new : Entry = record old { score = c.args.score } in
    let raised = c.in_ok-raise.ensures in
    let found : c.list_at.result.now ≡ own = c.list_at.ensures ∙ ap (λ (ls : List (Vec Entry Global)). list_at ls app) c.deref.ensures.value in
    let size : length c.write_at.new.lists ≡ roll.lists.len = omega (arith, c.write_at.auto.lists, c.deref_mut.ensures.len) in
    let same = with_items_is roll.lists c.write_at.new.lists size in
    let wrote : contents (with_items roll.lists c.write_at.new.lists).items ≡ set (lists_of roll) app (scored_at own at c.args.score) =
    ap contents same ∙ (rw (c.deref_mut.ensures.value, found) at c.write_at.ensures) in
    list_changed roll.merits c.lower.new.self (lists_of roll) (contents (with_items roll.lists c.write_at.new.lists).items) roll.present.items roll.applicants roll.applications
    roll.applications app (scored_at own at c.args.score) h c.requires.known wrote (c.lower.ensures.trees ∙ raised.trees)
    (fine-scored (programmes roll.merits) own at c.args.score c.requires.low (fine_at _ _ _ _ _ app h c.requires.known))
    (omega (arith, length-set own at new)) h.few_applications
    (λ key. let up : held_at c.raise.new.self key ≡ held_at roll.merits key + count_at trees key new = rw found at (raised.ok key) in
    let down : held_at c.lower.new.self key ≡ held_at c.raise.new.self key - count_at trees key old = rw (raised.trees, found) at (c.lower.ensures.held key) in
    let sums = sum_by-set (count_at trees key) own at new no_choice c.requires.within in
    let within = get_or-le-sum_by (count_at trees key) own at no_choice c.requires.within in
    omega (arith, up, down, sums, within, own_counted _ _ _ _ _ app key h c.requires.known))
