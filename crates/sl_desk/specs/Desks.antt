-- The desk of a worker.
use Rattle.std.specs.Prelude.{◌≡◌, ℕ, ◌*◌, ◌/◌, ◌≤◌, List, length}
use Rattle.sl_types.specs.Market.{Market}
use Rattle.sl_contend.specs.Counters.{HasRoomFor}
use Rattle.sl_core.specs.State.{no_limits}

-- room to count in, a number for each pool to read into, and the pool at which the worker goes on
pub record DeskValue : Type 0 where
  pub scratch : List ℕ
  pub reads : List ℕ
  pub cursor : ℕ

-- a desk for an instance, with nothing read
pub record IsFor (market : Market) (desk : DeskValue) : Type 0 where
  pub scratch : HasRoomFor market desk.scratch
  pub reads : desk.reads ≡ no_limits market
  pub cursor : desk.cursor ≤ length market.pools

-- the cursor at which a worker begins, of so many workers
abbrev pub StartsAt : ℕ → ℕ → Market → DeskValue → Type 0
StartsAt worker workers market desk = desk.cursor ≡ worker * length market.pools / workers
