use Rattle.sl_floor.specs.Floor.{IsOf, IsIdle}
use Rattle.sl_floor.proofs.tests.threads.work.Given as goal

abbrev pub invariant-loop : goal.invariant-loop
invariant-loop g l = IsOf l.floor l.seat × IsIdle l.seat
