-- What one settling of a pool does to a seat.
use Rattle.std.specs.Prelude.{◌≡◌, ℕ, ◌+◌, ◌≤◌, true, false, List, [], length, set}
use Rattle.sl_types.specs.declared.kinds.PoolId.{PoolId}
use Rattle.sl_types.specs.declared.kinds.Logged.{Logged}
use Rattle.sl_types.specs.Market.{Market}
use Rattle.sl_core.specs.State.{has_pool}
use Rattle.sl_core.specs.Machine.{has_any}
use Rattle.sl_contend.specs.Contention.{feeding, fed_by}
use Rattle.sl_floor.specs.Floor.{Sitting, SeatValue, flag_place, limit_place, claim_view}
use Rattle.sl_desk.specs.Seats.{Gains, HasStepped}
use Rattle.sl_desk.specs.Reading.{is_in, asked_pools}

-- a pool is left to scan for a seat, or isn't
abbrev pub IsLeft : SeatValue → ℕ → Type 0
IsLeft seat P = has_pool seat.view.actor.left P ≡ true

abbrev pub IsDone : SeatValue → ℕ → Type 0
IsDone seat P = has_pool seat.view.actor.left P ≡ false

-- some pool is left to scan
abbrev pub AnyIsLeft : SeatValue → Type 0
AnyIsLeft seat = has_any seat.view.actor.left ≡ true

-- how many steps a settling of P takes at most: a claim, a read of P and of each pool that feeds
-- it, a draw, a raise, and a mark of each pool that it feeds
abbrev pub steps_of : Market → ℕ → ℕ
steps_of market P = length (feeding market P) + length (fed_by market P) + 4

-- One raise was logged, or none; P isn't left to scan; and without a raise no other pool has joined
-- or gone.
pub record Settles (P : ℕ) (before after : SeatValue) : Type 0 where
  pub raises : List Logged
  pub one : length raises ≤ 1
  pub gains : Gains before after raises
  pub done : IsDone after P
  pub quiet : raises ≡ [] → after.view.actor.left ≡ set before.view.actor.left P false

-- a step on the word with P's flag
abbrev pub Claims : Market → ℕ → Sitting → Sitting → Type 0
Claims market P before after = HasStepped before after (flag_place market P)

-- a step on the word of P, and on that of each pool that feeds it
abbrev pub ReadsAll : Market → ℕ → Sitting → Sitting → Type 0
ReadsAll market P before after =
    (Q : ℕ) → is_in Q (asked_pools market P) ≡ true → HasStepped before after (limit_place Q)

-- a claim of P that found its flag down, and no other step
abbrev pub ClaimsAlone : PoolId → SeatValue → SeatValue → Type 0
ClaimsAlone P before after = after ≡ record before { view = claim_view before.view P false }
