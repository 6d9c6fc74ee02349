-- What a seat gains, and how its steps are counted.
use Rattle.std.specs.Prelude.{◌≡◌, ℕ, ◌+◌, ◌<◌, ◌≤◌, List, ◌++◌, length, sum, slice_index}
use Rattle.sl_types.specs.declared.kinds.Logged.{Logged}
use Rattle.sl_types.specs.Market.{Market}
use Rattle.sl_floor.specs.Floor.{Sitting, SeatValue, word_count}
use Rattle.sl_floor.specs.Held.{AreLimits}
use Rattle.sl_desk.specs.Turns.{RisesBy}

-- a number and a flag for each pool, and a count of steps for each word
pub record FitsMarket (market : Market) (view : Sitting) : Type 0 where
  pub known : length view.actor.known ≡ length market.pools
  pub limits : AreLimits view.actor.known
  pub left : length view.actor.left ≡ length market.pools
  pub steps : length view.steps ≡ word_count market

-- what stays of a seat, and what grows, while it logs these raises
pub record Gains (before after : SeatValue) (raises : List Logged) : Type 0 where
  pub table : after.table ≡ before.table
  pub room : after.room ≡ before.room
  pub market : after.view.market ≡ before.view.market
  pub kept : after.view.kept ≡ before.view.kept
  pub share : after.view.share ≡ before.view.share
  pub allowance : after.view.allowance + length raises ≡ before.view.allowance
  pub log : after.log ≡ before.log ++ raises
  pub whole : after.view.actor.log ≡ before.view.actor.log ++ raises
  pub knows : RisesBy before.view.actor.known after.view.actor.known (length raises)
  pub left : length after.view.actor.left ≡ length before.view.actor.left

-- at most n more steps on all words together, and no fewer on any
pub record Stepped (before after : Sitting) (n : ℕ) : Type 0 where
  pub each : length after.steps ≡ length before.steps
  pub rises : (i : ℕ) → slice_index before.steps i ≤ slice_index after.steps i
  pub few : sum after.steps ≤ sum before.steps + n

-- a step on this word
abbrev pub HasStepped : Sitting → Sitting → ℕ → Type 0
HasStepped before after i = slice_index before.steps i < slice_index after.steps i
