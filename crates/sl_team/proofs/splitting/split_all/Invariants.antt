use Rattle.std.proofs.Common.{◌≡◌, ◌⊎◌, ◌+◌, ◌≤◌, All, length, vec_capacity}
use Rattle.sl_floor.specs.declared.shares.TheConstants.{WHOLE_SHARE}
use Rattle.sl_team.specs.Rounds.{halved, doubled}
use Rattle.sl_team.specs.Crew.{IsFreshTeam, total_of}
use Rattle.sl_team.specs.Seats.{IsSpare, HasAtLeast}
use Rattle.sl_team.proofs.splitting.split_all.Given as goal

abbrev pub invariant-loop : goal.invariant-loop
invariant-loop l = record {
  crew : IsFreshTeam l.floor l.room l.fn.crew.items l.crew.items;
  spares : All (IsSpare l.floor l.room) l.spares.items;
  count : length l.crew.items + length l.spares.items ≡ 1 + length l.fn.spares.items;
  grown : (length l.spares.items ≡ 0) ⊎ (doubled l.counter ≤ length l.crew.items);
  capacity : vec_capacity l.spares ≡ vec_capacity l.fn.spares;
  low : All (HasAtLeast (halved l.counter WHOLE_SHARE) (halved l.counter (total_of l.fn.crew.items))) l.crew.items;
}
