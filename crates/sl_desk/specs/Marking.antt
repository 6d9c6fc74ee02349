-- A seat that marks the pools which a raised pool feeds.
use Rattle.std.specs.Prelude.{◌≡◌, ℕ, ◌<◌, false, not, ◌&&◌, List, [], length, if◌then◌else◌}
use Rattle.sl_types.specs.declared.kinds.PoolId.{PoolId}
use Rattle.sl_types.specs.Market.{Market}
use Rattle.sl_laws.specs.Stable.{feeds}
use Rattle.sl_core.specs.declared.kinds.Phase.TheVariants.{Idle, Owing}
use Rattle.sl_core.specs.State.{has_pool}
use Rattle.sl_core.specs.Machine.{has_any}
use Rattle.sl_contend.specs.Contention.{fed_by}
use Rattle.sl_floor.specs.Floor.{SeatValue}
use Rattle.sl_desk.specs.Seats.{Gains, Stepped}
use Rattle.sl_desk.specs.Reading.{is_in}

-- other pools than these are left to scan as before
abbrev pub KeepsOthers : SeatValue → SeatValue → List ℕ → Type 0
KeepsOthers before after pools =
    (Q : ℕ) → is_in Q pools ≡ false
    → has_pool after.view.actor.left Q ≡ has_pool before.view.actor.left Q

-- a seat that has raised P and marked these pools
pub record HasMarked (market : Market) (P : PoolId) (before after : SeatValue) (marked : List ℕ)
    : Type 0 where
  pub gains : Gains before after []
  pub steps : Stepped before.view after.view (length marked)
  pub left : KeepsOthers before after marked
  pub phase : after.view.actor.phase ≡ if has_any after.view.actor.owed then Owing P else Idle
  pub all : length after.view.actor.owed ≡ length market.pools
  pub owed : (Q : ℕ) → Q < length market.pools
      → has_pool after.view.actor.owed Q ≡ (feeds market P.0 Q && not (is_in Q marked))

-- a seat that has marked all pools that P feeds
abbrev pub HasMarkedAll : Market → PoolId → SeatValue → SeatValue → Type 0
HasMarkedAll market P before after = HasMarked market P before after (fed_by market P.0)
