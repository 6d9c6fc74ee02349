use Rattle.std.proofs.Common.{◌≡◌, ◌<◌, ℕ, slice_index}
use Rattle.sl_laws.specs.Stable.{IsSettled}
use Rattle.sl_check.proofs.lowest.unsettled.Given as goal

abbrev pub invariant-loop-number : goal.invariant-loop-number
invariant-loop-number g l = record {
  same : l.replay ≡ l.fn.replay;
  below : (P : ℕ) → P < l.number → IsSettled l.instance (slice_index l.fn.replay.limits) P;
}
