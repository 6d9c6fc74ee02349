-- What a look over the limits of a floor does to a seat.
use Rattle.std.specs.Prelude.{◌≡◌, ◌≢◌, ℕ, ◌+◌, ◌<◌, List, length, slice_index}
use Rattle.sl_types.specs.Market.{Market}
use Rattle.sl_floor.specs.Floor.{SeatValue, limit_place}

-- a seat that knows these limits, and has made so many steps on each word; all else is as it was
abbrev pub seat_with : SeatValue → List ℕ → List ℕ → SeatValue
seat_with seat known steps = record seat {
  view = record seat.view { actor = record seat.view.actor { known = known }; steps = steps };
}

-- one more step on the limit word of each of the first n pools, and on no other word
pub record StepsOnFirst (n : ℕ) (before after : List ℕ) : Type 0 where
  pub each : length after ≡ length before
  pub limits :
      (Q : ℕ) → Q < n
      → slice_index after (limit_place Q) ≡ slice_index before (limit_place Q) + 1
  pub others :
      (i : ℕ) → ((Q : ℕ) → Q < n → i ≢ limit_place Q)
      → slice_index after i ≡ slice_index before i

-- one more step on each limit word, and on no other word
abbrev pub StepsOnLimits : Market → List ℕ → List ℕ → Type 0
StepsOnLimits market before after = StepsOnFirst (length market.pools) before after

-- only what a seat knows and its steps have changed, and it knows what the look found
abbrev pub Looks : SeatValue → SeatValue → List ℕ → Type 0
Looks before after found = after ≡ seat_with before found after.view.steps
