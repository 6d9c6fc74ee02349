-- A seat that raises a pool.
use Rattle.std.specs.Prelude.{◌≡◌, ℕ, ◌+◌, Bool, [], ◌∷◌, length}
use Rattle.sl_types.specs.declared.kinds.PoolId.{PoolId}
use Rattle.sl_types.specs.declared.kinds.Logged.{Logged}
use Rattle.sl_types.specs.Market.{Market}
use Rattle.sl_core.specs.Machine.{fed_pools, phase_after_raise}
use Rattle.sl_contend.specs.Contention.{fed_by}
use Rattle.sl_floor.specs.Floor.{SeatValue}
use Rattle.sl_desk.specs.Seats.{Gains, Stepped}
use Rattle.sl_desk.specs.Marking.{KeepsOthers}

-- a seat that has drawn a ticket for its raise of P, and raised the word, which rose or not
pub record HasLifted (market : Market) (P : PoolId) (before after : SeatValue) (rose : Bool)
    : Type 0 where
  pub entry : Logged
  pub gains : Gains before after (entry ∷ [])
  pub left : after.view.actor.left ≡ before.view.actor.left
  pub steps : Stepped before.view after.view 2
  pub phase : after.view.actor.phase ≡ phase_after_raise market P rose
  pub owed : after.view.actor.owed ≡ fed_pools market P.0

-- and marked the pools that P feeds, where it rose
pub record HasRaised (market : Market) (P : ℕ) (before after : SeatValue) : Type 0 where
  pub entry : Logged
  pub gains : Gains before after (entry ∷ [])
  pub left : KeepsOthers before after (fed_by market P)
  pub steps : Stepped before.view after.view (2 + length (fed_by market P))
