use Rattle.std.proofs.Common.{false}
use Rattle.sl_laws.specs.Stable.{feeds}
use Rattle.sl_core.proofs.Filling.{Filled}
use Rattle.sl_core.proofs.lists.flag_fed.Given as goal

abbrev pub invariant-loop-at : goal.invariant-loop-at
invariant-loop-at l = Filled l.flags l.at (λ Q. feeds l.instance l.pool.0 Q) false
