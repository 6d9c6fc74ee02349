use Rattle.std.proofs.Common.{◌≡◌, length}
use Rattle.sl_team.proofs.Watched.{IsWatching}
use Rattle.sl_team.proofs.watching.watch.Given as goal

abbrev pub invariant-loop-at : goal.invariant-loop-at
invariant-loop-at g l = record {
  watching : IsWatching l.floor l.fn.seat l.seat l.seen l.at;
  count : length l.seen ≡ length l.fn.seen;
}
