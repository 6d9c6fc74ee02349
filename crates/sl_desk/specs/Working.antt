-- What a worker does to its seat in many turns.
use Rattle.std.specs.Prelude.{◌≡◌, ◌⊎◌, ℕ, ◌+◌, ◌<◌, ◌≤◌, List, length, slice_index}
use Rattle.sl_types.specs.declared.kinds.Logged.{Logged}
use Rattle.sl_types.specs.Market.{Market}
use Rattle.sl_floor.specs.Floor.{Sitting, FloorValue, SeatValue, IsOf, IsIdle}
use Rattle.sl_desk.specs.Turns.{room_above, turns_within}
use Rattle.sl_desk.specs.Seats.{Gains}
use Rattle.sl_desk.specs.Settling.{IsDone, Claims}
use Rattle.sl_desk.specs.Scanning.{number_after}
use Rattle.sl_desk.specs.Desks.{DeskValue, IsFor}

-- what a seat gained in some turns: the raises that it logged, and on no word fewer steps
pub record Works (before after : SeatValue) : Type 0 where
  pub raises : List Logged
  pub gains : Gains before after raises
  pub steps : (i : ℕ) → slice_index before.view.steps i ≤ slice_index after.view.steps i

-- the last pool that was claimed: it isn't left to scan, and the cursor stands at the next one
pub record HasPassed (market : Market) (before after : SeatValue) (cursor P : ℕ) : Type 0 where
  pub within : P < length market.pools
  pub claimed : Claims market P before.view after.view
  pub done : IsDone after P
  pub next : cursor ≡ number_after (length market.pools) P

-- where a cursor went: nowhere, where nothing was claimed, and else past the last pool that was
abbrev pub StandsNext : Market → SeatValue → SeatValue → ℕ → ℕ → Type 0
StandsNext market before after old new =
    ((after ≡ before) × (new ≡ old)) ⊎ ((P : ℕ) × HasPassed market before after new P)

-- how many turns can still come, with what the seat knows and with the pools that it has left
abbrev pub turns_left : Sitting → ℕ
turns_left view = turns_within (room_above view.actor.known) view.actor.left

-- a worker between two turns, of which it has made so many since its cursor stood at the start
pub record IsAtWork (floor : FloorValue) (before now : SeatValue) (start : ℕ) (desk : DeskValue)
    (turn : ℕ) : Type 0 where
  pub seat : IsOf floor now
  pub idle : IsIdle now
  pub works : Works before now
  pub for : IsFor floor.market desk
  pub cursor : StandsNext floor.market before now start desk.cursor
  pub enough : now.room ≤ now.view.allowance + length now.log
  pub turns : turn + turns_left now.view ≤ turns_left before.view
