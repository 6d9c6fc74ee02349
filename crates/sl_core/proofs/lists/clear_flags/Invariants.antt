use Rattle.std.proofs.Common.{false}
use Rattle.sl_core.proofs.Filling.{Filled}
use Rattle.sl_core.proofs.lists.clear_flags.Given as goal

abbrev pub invariant-loop-at : goal.invariant-loop-at
invariant-loop-at l = Filled l.flags l.at (λ _. false) false
