use Rattle.std.proofs.Common.{◌≡◌, slice_index}
use Rattle.sl_laws.specs.Limits.{with_limit, is_admitted_in}
use Rattle.sl_laws.proofs.Steps.{count_below}
use Rattle.sl_laws.proofs.replaced.demand.Given as goal

abbrev pub invariant-loop-app : goal.invariant-loop-app
invariant-loop-app l = l.count ≡ count_below (is_admitted_in l.instance (with_limit (slice_index l.limits) l.pool.0 l.limit) l.pool.0) l.instance.lists l.app
