use Rattle.std.proofs.Common.{◌≡◌, take}
use Rattle.sl_amend.proofs.opening.copy_codes.Given as goal

abbrev pub invariant-loop-number : goal.invariant-loop-number
invariant-loop-number l = l.copy ≡ take l.number l.codes
