use Rattle.std.proofs.Common.{◌≡◌, ◌<◌, ◌-◌, ◌+◌, arith, length, get_or, reverse}
use Rattle.std.proofs.lemmas.List.{get_or_read}
use Rattle.sl_choices.specs.Chains.{no_row}
use Rattle.sl_choices.specs.Rows.{rows_of_app}
use Rattle.sl_choices.proofs.Links.{walk_step}
use Rattle.sl_choices.proofs.chains.Chains.find_own.Goals as goal

pub rows-preserved : goal.rows-preserved
rows-preserved c =
    let self = c.args.self.now in
    let inv = c.rows.invariant in
    let m = c.rows.link - 1 in
    let lt : m < length self.rows.items = omega (arith, inv.within) in
    let also : m < length self.before.items = omega (arith, lt, c.requires.linked.each) in
    let one : c.rows.link ≡ m + 1 = omega arith in
    let same = inv.own (omega arith) in
    let row : c.index.result.now ≡ get_or self.rows.items m no_row = get_or_read self.rows.items m _ lt c.index.ensures no_row in
    let next : c.index-link-in-rows.result.now ≡ get_or self.before.items m 0 = get_or_read self.before.items m _ also c.index-link-in-rows.ensures 0 in
    let last = rw (← next) at (c.requires.linked.to_before m lt) in
    let so_far = rw one at inv.so_far in
    record {
      within = omega (arith, last.within, lt);
      so_far = rw (c.in_ok-push.ensures.items, row) (walk_step self.rows.items c.rows.own.items (reverse (rows_of_app c.args.app.0 self.rows.items)) c.args.app.0 m c.index-link-in-rows.result.now lt same last so_far);
      own = λ pos. rw (last.own pos) same;
    }
