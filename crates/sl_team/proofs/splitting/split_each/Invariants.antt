use Rattle.std.proofs.Common.{◌≡◌, ◌+◌, ◌/◌, ℕ, All, length, vec_capacity}
use Rattle.std.specs.List.{AllWithin}
use Rattle.sl_team.specs.Crew.{IsFreshTeam}
use Rattle.sl_team.specs.Seats.{IsSpare, HasAtLeast}
use Rattle.sl_team.proofs.splitting.split_each.Given as goal

abbrev pub invariant-loop-at : goal.invariant-loop-at
invariant-loop-at l = record {
  crew : IsFreshTeam l.floor l.room l.fn.crew.items l.crew.items;
  spares : All (IsSpare l.floor l.room) l.spares.items;
  long : length l.crew.items ≡ length l.fn.crew.items + l.at;
  count : length l.crew.items + length l.spares.items ≡ length l.fn.crew.items + length l.fn.spares.items;
  capacity : vec_capacity l.spares ≡ vec_capacity l.fn.spares;
  halves : (share allowance : ℕ) → All (HasAtLeast share allowance) l.fn.crew.items → All (HasAtLeast (share / 2) (allowance / 2)) l.crew.items × AllWithin (HasAtLeast share allowance) l.crew.items l.at (length l.fn.crew.items);
}
