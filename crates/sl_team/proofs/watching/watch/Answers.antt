use Rattle.std.proofs.Common.{◌∙◌, ◌<◌, ◌+◌, List, ℕ, length, sym, ap, subst, arith, length-set}
use Rattle.sl_team.proofs.Watched.{IsWatching, watches_more, are_seen}
use Rattle.sl_team.proofs.watching.watch.Goals as goal

pub loop-at-preserved : goal.loop-at-preserved
loop-at-preserved g c =
    let floor = c.args.floor.now in
    let before = c.args.seat.now in
    let seen = c.loop-at.seen in
    let next = c.look_at.new.seat in
    let is = c.look_at.ensures.seen in
    let count = c.loop-at.invariant.count in
    let low = c.loop-at-test.true in
    let all = c.count-at-end.ensures in
    let within : c.loop-at.at < length seen = omega (arith, low, count, all) in
    record {
      watching = subst (λ (s : List (List ℕ)). IsWatching floor before next s (c.loop-at.at + 1)) (sym is) (watches_more floor before c.loop-at.seat next seen c.loop-at.at within c.loop-at.invariant.watching c.look_at.ensures.looked);
      count = ap length is ∙ (length-set seen c.loop-at.at next.view.actor.known ∙ count);
    }

pub returns-clause-seen : goal.returns-clause-seen
returns-clause-seen g c =
    let count = c.loop-at.invariant.count in
    let high = c.loop-at-test.false in
    let all = c.count-at-end.ensures in
    are_seen c.args.floor.now c.args.seat.now c.loop-at.seat c.loop-at.seen c.loop-at.at (omega (arith, count, high, all)) c.loop-at.invariant.watching
