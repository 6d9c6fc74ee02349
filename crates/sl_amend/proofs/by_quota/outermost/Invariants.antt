use Rattle.std.proofs.Common.{◌≡◌, ◌<◌, length, All}
use Rattle.sl_amend.specs.Touched.{last_from, outermost_of}
use Rattle.sl_amend.proofs.by_quota.outermost.Given as goal

abbrev pub invariant-loop-here : goal.invariant-loop-here
invariant-loop-here l = record {
  within : All (λ P. P < length l.instance.pools) l.here-iterator;
  low : l.outermost.0 < length l.instance.pools;
  last : last_from l.outermost.0 l.here-iterator ≡ outermost_of l.instance l.fn.pool.0;
}
