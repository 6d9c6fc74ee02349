use Rattle.std.proofs.Common.{◌≡◌, take, filter, not}
use Rattle.sl_amend.specs.Flags.{is_flagged}
use Rattle.sl_amend.proofs.marking.keep.Given as goal

abbrev pub invariant-loop-raise : goal.invariant-loop-raise
invariant-loop-raise l = l.kept.items ≡ filter (λ r. not (is_flagged l.flags r.pool.0)) (take l.raise-index l.raises)
