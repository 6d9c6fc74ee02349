use Rattle.std.proofs.Common.{◌<◌, ℕ, slice_index}
use Rattle.sl_check.specs.Verdict.{IsAdmission}
use Rattle.sl_check.proofs.lowest.wrong_admission.Given as goal

abbrev pub invariant-loop-number : goal.invariant-loop-number
invariant-loop-number l = (a : ℕ) → a < l.number → IsAdmission l.instance (slice_index l.limits) l.admitted a
