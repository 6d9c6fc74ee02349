use Rattle.std.proofs.Common.{◌≡◌, ◌≤◌, ◌+◌, ◌*◌, ◌++◌, ℕ, List, [], All, length, vec_capacity}
use Rattle.sl_types.specs.declared.kinds.Logged.{Logged}
use Rattle.sl_team.specs.Crew.{AreAtRest, AreBack, first_memory}
use Rattle.sl_team.specs.Seats.{IsSpare}
use Rattle.sl_team.proofs.joining.join_all.Given as goal

abbrev pub invariant-loop : goal.invariant-loop
invariant-loop l = record {
  crew : AreAtRest l.floor l.room l.crew.items;
  memory : first_memory l.crew.items ≡ [];
  spares : All (IsSpare l.floor l.room) l.spares.items;
  left : length l.crew.items + l.counter ≡ length l.fn.crew.items + 1;
  count : length l.spares.items + length l.crew.items ≡ length l.fn.spares.items + length l.fn.crew.items;
  spare_room : length l.spares.items + length l.crew.items ≤ vec_capacity l.spares + 1;
  log_room : length l.gathered.items + length l.crew.items * l.room ≤ vec_capacity l.gathered + l.room;
  spare_capacity : vec_capacity l.fn.spares ≤ vec_capacity l.spares;
  team : (known : List ℕ) (before : List Logged) (total : ℕ) → AreBack l.floor l.room known (before ++ l.fn.gathered.items) total l.fn.crew.items → AreBack l.floor l.room known (before ++ l.gathered.items) total l.crew.items;
}
