-- Workers at their seats, one by one.
use Rattle.std.specs.Prelude.{◌≡◌, ℕ, ◌≤◌, List, [], length}
use Rattle.sl_floor.specs.Floor.{FloorValue, SeatValue, BlankValue, IsOf, IsIdle}
use Rattle.sl_desk.specs.Turns.{RisesBy}
use Rattle.sl_desk.specs.Settling.{AnyIsLeft}
use Rattle.sl_desk.specs.Working.{Works}
use Rattle.sl_desk.specs.Desks.{DeskValue, IsFor}

-- a seat at which a worker may start: what it may draw fills its log at least
pub record MayWork (floor : FloorValue) (seat : SeatValue) : Type 0 where
  pub of : IsOf floor seat
  pub idle : IsIdle seat
  pub lasts : seat.room ≤ seat.view.allowance

-- A worker has worked until it stopped. A pool is left to scan only where its log is full.
pub record HasWorked (floor : FloorValue) (old new : SeatValue) : Type 0 where
  pub of : IsOf floor new
  pub idle : IsIdle new
  pub works : Works old new
  pub fits : length new.log ≤ new.room
  pub full : AnyIsLeft new → length new.log ≡ new.room

-- a seat that may start: it knows these numbers, and its log in memory is empty
pub record IsFresh (floor : FloorValue) (room : ℕ) (known : List ℕ) (seat : SeatValue) : Type 0 where
  pub of : IsOf floor seat
  pub idle : IsIdle seat
  pub room_is : seat.room ≡ room
  pub log : seat.log ≡ []
  pub knows : seat.view.actor.known ≡ known

-- a seat that has stopped: it knows no less than these numbers, and more where a pool is left
pub record IsBack (floor : FloorValue) (room : ℕ) (known : List ℕ) (seat : SeatValue) : Type 0 where
  pub of : IsOf floor seat
  pub idle : IsIdle seat
  pub room_is : seat.room ≡ room
  pub fits : length seat.log ≤ room
  pub knows : RisesBy known seat.view.actor.known 0
  pub more : AnyIsLeft seat → RisesBy known seat.view.actor.known 1

-- a seat with nothing in hand
pub record IsAtRest (floor : FloorValue) (room : ℕ) (seat : SeatValue) : Type 0 where
  pub of : IsOf floor seat
  pub idle : IsIdle seat
  pub room_is : seat.room ≡ room
  pub fits : length seat.log ≤ room

-- a seat that may be split
pub record CanSplit (floor : FloorValue) (seat : SeatValue) : Type 0 where
  pub of : IsOf floor seat
  pub idle : IsIdle seat
  pub two : 2 ≤ seat.view.share

-- a seat has at least this share and this allowance
abbrev pub HasAtLeast : ℕ → ℕ → SeatValue → Type 0
HasAtLeast share allowance seat = (share ≤ seat.view.share) × (allowance ≤ seat.view.allowance)

-- a seat whose log in memory was emptied
abbrev pub cleared : SeatValue → SeatValue
cleared seat = record seat { log = [] }

-- a worker without a seat: the memory of one, and its desk
pub record SpareValue : Type 0 where
  pub blank : BlankValue
  pub desk : DeskValue

-- made for the instance of a floor, with this room for a log
pub record IsSpare (floor : FloorValue) (room : ℕ) (spare : SpareValue) : Type 0 where
  pub pools : spare.blank.pools ≡ length floor.market.pools
  pub room_is : spare.blank.room ≡ room
  pub desk : IsFor floor.market spare.desk
