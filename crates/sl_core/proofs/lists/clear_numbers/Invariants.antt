use Rattle.sl_core.proofs.Filling.{Filled}
use Rattle.sl_core.proofs.lists.clear_numbers.Given as goal

abbrev pub invariant-loop-at : goal.invariant-loop-at
invariant-loop-at l = Filled l.numbers l.at (λ _. 0) 0
