-- Rounds of a crew, and how many can come.
use Rattle.std.specs.Prelude.{◌≡◌, ℕ, zero, suc, ◌+◌, ◌*◌, ◌/◌, ◌<◌, ◌≤◌, true, List, ◌++◌, All, length, sum}
use Rattle.sl_types.specs.declared.kinds.Logged.{Logged}
use Rattle.sl_core.specs.State.{logged_from}
use Rattle.sl_core.specs.Parts.{once_if}
use Rattle.sl_floor.specs.declared.shares.TheConstants.{FIRST_ALLOWANCE}
use Rattle.sl_floor.specs.Floor.{FloorValue, SeatValue}
use Rattle.sl_floor.specs.Held.{AreLimits}
use Rattle.sl_desk.specs.Turns.{RisesBy, room_above}
use Rattle.sl_team.specs.Seats.{SpareValue, IsSpare}
use Rattle.sl_team.specs.Crew.{IsFreshTeam, first_known, first_log, first_has_left, total_of}

-- a number doubled, and halved, so many times
abbrev pub doubled : ℕ → ℕ
doubled zero = 1
doubled (suc n) = doubled n + doubled n

abbrev pub halved : ℕ → ℕ → ℕ
halved zero x = x
halved (suc n) x = halved n x / 2

-- what all seats can draw in a round, at most: 65 seats, of 65,536 entries each
abbrev pub round_top : ℕ
round_top = 4259840

-- Between two rounds there is one seat, which has all; the entries gathered so far come after the
-- kept raises in its whole log. Where a pool is left, what can be drawn with each point that may
-- still become known is left of the allowance.
pub record IsBetween (floor : FloorValue) (room : ℕ) (gathered : List Logged)
    (crew : List SeatValue) (spares : List SpareValue) : Type 0 where
  pub one : length crew ≡ 1
  pub team : IsFreshTeam floor room crew crew
  pub log : first_log crew ≡ logged_from 0 floor.kept ++ gathered
  pub limits : AreLimits (first_known crew)
  pub long : length (first_known crew) ≡ length floor.market.pools
  pub fit : All (IsSpare floor room) spares
  pub few : length spares < 65
  pub top : total_of crew ≤ FIRST_ALLOWANCE
  pub lasts : first_has_left crew ≡ true
      → FIRST_ALLOWANCE ≤ total_of crew + round_top * sum (first_known crew)

-- how many more rounds there can be
abbrev pub rounds_within : List SeatValue → ℕ
rounds_within crew = room_above (first_known crew) + once_if (first_has_left crew)

-- after a round the seat knows no less, and more where a pool is left
pub record HasRounded (crew later : List SeatValue) : Type 0 where
  pub knows : RisesBy (first_known crew) (first_known later) 0
  pub more : first_has_left later ≡ true → RisesBy (first_known crew) (first_known later) 1
