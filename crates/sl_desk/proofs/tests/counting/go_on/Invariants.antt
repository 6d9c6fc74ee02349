use Rattle.sl_floor.specs.Floor.{IsOf, IsIdle}
use Rattle.sl_desk.specs.Desks.{IsFor}
use Rattle.sl_desk.proofs.tests.counting.go_on.Given as goal

abbrev pub invariant-loop-at : goal.invariant-loop-at
invariant-loop-at g l = record {
  seat : IsOf l.floor l.seat;
  idle : IsIdle l.seat;
  desk : IsFor l.instance l.desk;
}
