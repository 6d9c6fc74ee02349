use Rattle.std.proofs.Common.{◌≡◌, ◌≤◌, ◌+◌, ◌-◌, ◌*◌, length, slice_index}
use Rattle.sl_types.specs.declared.kinds.TheConstants.{MAX_QUOTA}
use Rattle.sl_laws.specs.Limits.{with_limit, admitted_directly}
use Rattle.sl_laws.proofs.Steps.{asks_below}
use Rattle.sl_laws.proofs.replaced.+demand_within.Given as goal

abbrev pub decreases-demand_within : goal.decreases-demand_within
decreases-demand_within l = l.levels

abbrev pub invariant-loop-number : goal.invariant-loop-number
invariant-loop-number l = record {
  sum : l.sum ≡ asks_below l.instance (with_limit (slice_index l.limits) l.pool.0 l.limit) l.x (l.levels - 1) l.at.0 l.number + length (admitted_directly l.instance (with_limit (slice_index l.limits) l.pool.0 l.limit) l.at.0 l.x);
  low : l.sum ≤ length l.instance.lists + l.number * MAX_QUOTA;
}
