use Rattle.std.proofs.Common.{◌≡◌, ◌≤◌, ◌*◌, take}
use Rattle.std.specs.Prelude.{sum}
use Rattle.sl_run.proofs.summary.limit_sum.Given as goal

abbrev pub invariant-loop-limit : goal.invariant-loop-limit
invariant-loop-limit l = record {
  added : l.total ≡ sum (take l.limit-index l.limits);
  low : l.total ≤ 4294967295 * l.limit-index;
}
