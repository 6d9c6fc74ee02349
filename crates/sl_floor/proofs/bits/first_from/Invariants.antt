use Rattle.sl_floor.proofs.Sets.{HasPassed}
use Rattle.sl_floor.proofs.bits.first_from.Given as goal

abbrev pub invariant-loop-at : goal.invariant-loop-at
invariant-loop-at l = HasPassed l.words l.from l.at l.start
