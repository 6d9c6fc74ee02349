use Rattle.std.proofs.Common.{◌≡◌, ◌≤◌, ◌+◌, All, length, vec_capacity}
use Rattle.sl_floor.specs.Floor.{FloorValue}
use Rattle.sl_team.specs.Seats.{IsSpare}
use Rattle.sl_team.proofs.opening.spares_for.Given as goal

abbrev pub invariant-loop-worker : goal.invariant-loop-worker
invariant-loop-worker l = record {
  count : length l.spares.items + 1 ≡ l.worker;
  capacity : l.workers ≤ vec_capacity l.spares;
  spares : (floor : FloorValue) → floor.market ≡ l.instance → All (IsSpare floor l.room) l.spares.items;
}
