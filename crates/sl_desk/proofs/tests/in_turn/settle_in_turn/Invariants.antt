use Rattle.sl_floor.specs.Floor.{IsOf, IsIdle}
use Rattle.sl_desk.specs.Desks.{IsFor}
use Rattle.sl_desk.proofs.tests.in_turn.settle_in_turn.Given as goal

abbrev pub invariant-loop : goal.invariant-loop
invariant-loop g l = record {
  seats : IsOf l.floor l.first.seat × IsOf l.floor l.second.seat;
  idle : IsIdle l.first.seat × IsIdle l.second.seat;
  desks : IsFor l.instance l.first.desk × IsFor l.instance l.second.desk;
}
