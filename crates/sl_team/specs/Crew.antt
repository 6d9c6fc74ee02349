-- All seats of a floor: how one is split, and how two become one.
use Rattle.std.specs.Prelude.{◌≡◌, ℕ, ◌<◌, ◌≤◌, Bool, false, List, [], ◌∷◌, ◌++◌, All, slice_index_or, set, sum_by, length}
use Rattle.sl_types.specs.declared.kinds.Logged.{Logged}
use Rattle.sl_core.specs.Machine.{has_any}
use Rattle.sl_floor.specs.declared.shares.TheConstants.{WHOLE_SHARE, FIRST_ALLOWANCE}
use Rattle.sl_floor.specs.Floor.{FloorValue, SeatValue, stay_view, go_view, both_view}
use Rattle.sl_team.specs.Seats.{IsFresh, IsBack, IsAtRest}

-- the first seat has these entries in its whole log before those in memory, and every other has none
abbrev pub AreLogged : List Logged → List SeatValue → Type 0
AreLogged before [] = ⊥
AreLogged before (first ∷ others) =
    (first.view.actor.log ≡ before ++ first.log) × All (λ s. s.view.actor.log ≡ s.log) others

-- what the first seat knows, its whole log, its log in memory, and whether it has a pool left
abbrev pub first_known : List SeatValue → List ℕ
first_known [] = []
first_known (first ∷ others) = first.view.actor.known

abbrev pub first_log : List SeatValue → List Logged
first_log [] = []
first_log (first ∷ others) = first.view.actor.log

abbrev pub first_memory : List SeatValue → List Logged
first_memory [] = []
first_memory (first ∷ others) = first.log

abbrev pub first_has_left : List SeatValue → Bool
first_has_left [] = false
first_has_left (first ∷ others) = has_any first.view.actor.left

-- what all seats may draw together
abbrev pub total_of : List SeatValue → ℕ
total_of crew = sum_by (λ s. s.view.allowance) crew

-- all seats of a floor: the shares add up to the whole, and the allowances to this total
pub record IsTeam (F : SeatValue → Type 0) (before : List Logged) (total : ℕ) (crew : List SeatValue) : Type 0 where
  pub each : All F crew
  pub shares : sum_by (λ s. s.view.share) crew ≡ WHOLE_SHARE
  pub total_is : total_of crew ≡ total
  pub logs : AreLogged before crew

-- seats that may start, and have together what this crew has
abbrev pub IsFreshTeam : FloorValue → ℕ → List SeatValue → List SeatValue → Type 0
IsFreshTeam floor room crew later =
    IsTeam (IsFresh floor room (first_known crew)) (first_log crew) (total_of crew) later

-- seats that have stopped, with these entries gathered so far
abbrev pub AreBack : FloorValue → ℕ → List ℕ → List Logged → ℕ → List SeatValue → Type 0
AreBack floor room known before total crew = IsTeam (IsBack floor room known) before total crew

-- all seats of a floor, at rest
pub record AreAtRest (floor : FloorValue) (room : ℕ) (crew : List SeatValue) : Type 0 where
  pub each : All (IsAtRest floor room) crew
  pub shares : sum_by (λ s. s.view.share) crew ≡ WHOLE_SHARE
  pub total : total_of crew ≤ FIRST_ALLOWANCE

-- the seat at this place is split: one half stays there, and the other, bare or not, comes at the end
pub record IsSplitAt (room at : ℕ) (bare : Bool) (crew later : List SeatValue) : Type 0 where
  pub seat : SeatValue
  pub made : SeatValue
  pub place : slice_index_or crew at seat ≡ seat
  pub later_is : later ≡ set crew at (record seat { view = stay_view seat.view }) ++ made ∷ []
  pub view : made.view ≡ go_view bare seat.view
  pub table : made.table ≡ seat.table
  pub log : made.log ≡ []
  pub room_is : made.room ≡ room

-- the last seat is joined into the first, and these are the entries of its log in memory
pub record HasJoined (crew later : List SeatValue) (more : List Logged) : Type 0 where
  pub rest : List SeatValue
  pub first : SeatValue
  pub last : SeatValue
  pub crew_is : crew ≡ rest ++ last ∷ []
  pub some : 0 < length rest
  pub first_is : slice_index_or rest 0 first ≡ first
  pub later_is : later ≡ set rest 0 (record first { view = both_view first.view last.view })
  pub more_is : more ≡ last.log
