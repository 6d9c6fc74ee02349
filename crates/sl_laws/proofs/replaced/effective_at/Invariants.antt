use Rattle.std.proofs.Common.{◌≡◌, ◌<◌, length, max, slice_index, All}
use Rattle.sl_laws.specs.Limits.{with_limit, greatest_of, effective_limit}
use Rattle.sl_laws.proofs.replaced.effective_at.Given as goal

abbrev pub invariant-loop-here : goal.invariant-loop-here
invariant-loop-here l = record {
  within : All (λ P. P < length l.instance.pools) l.here-iterator;
  best : max l.greatest (greatest_of (with_limit (slice_index l.limits) l.pool.0 l.limit) l.here-iterator) ≡ effective_limit l.instance (with_limit (slice_index l.limits) l.pool.0 l.limit) l.fn.at.0;
}
