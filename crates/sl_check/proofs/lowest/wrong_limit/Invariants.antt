use Rattle.std.proofs.Common.{◌<◌, ℕ, slice_index}
use Rattle.sl_check.specs.Verdict.{IsLimit}
use Rattle.sl_check.proofs.lowest.wrong_limit.Given as goal

abbrev pub invariant-loop-number : goal.invariant-loop-number
invariant-loop-number l = (P : ℕ) → P < l.number → IsLimit l.instance (slice_index l.reached) l.limits P
