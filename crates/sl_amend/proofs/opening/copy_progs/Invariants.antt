use Rattle.std.proofs.Common.{◌≡◌, take}
use Rattle.sl_amend.proofs.opening.copy_progs.Given as goal

abbrev pub invariant-loop-number : goal.invariant-loop-number
invariant-loop-number l = l.progs.items ≡ take l.number l.instance.progs
