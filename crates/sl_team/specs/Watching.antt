-- A reader of progress at its seat.
use Rattle.std.specs.Prelude.{◌≡◌, ℕ, ◌≤◌, List, [], All, length, slice_index}
use Rattle.sl_types.specs.Market.{Market}
use Rattle.sl_floor.specs.Floor.{FloorValue, SeatValue, IsOf, IsIdle, KnowsMore}
use Rattle.sl_floor.specs.Held.{AreLimits, PassNone}
use Rattle.sl_watch.specs.Looking.{Looks, StepsOnLimits}
use Rattle.sl_desk.specs.Seats.{Gains}
use Rattle.sl_team.specs.Clearing.{AreRising}

-- a seat that has looked at every limit
pub record HasLooked (floor : FloorValue) (before after : SeatValue) : Type 0 where
  pub looks : Looks before after after.view.actor.known
  pub rises : KnowsMore before after
  pub steps : StepsOnLimits floor.market before.view.steps after.view.steps
  pub each : length after.view.actor.known ≡ length floor.market.pools
  pub top : AreLimits after.view.actor.known
  pub low : PassNone floor.market after.view.actor.known

-- a seat that has made all its looks: it has logged nothing, and has the same pools left to scan
pub record HasWatched (floor : FloorValue) (before after : SeatValue) : Type 0 where
  pub of : IsOf floor after
  pub idle : IsIdle after
  pub gains : Gains before after []
  pub left : after.view.actor.left ≡ before.view.actor.left
  pub steps : (i : ℕ) → slice_index before.view.steps i ≤ slice_index after.view.steps i

-- a number for each pool, for each look
abbrev pub AreLong : Market → List (List ℕ) → Type 0
AreLong market seen = All (λ look. length look ≡ length market.pools) seen

-- what looks saw: no look above a stable limit, and none below the one before
pub record AreSeen (market : Market) (seen : List (List ℕ)) : Type 0 where
  pub long : AreLong market seen
  pub low : All (PassNone market) seen
  pub rising : AreRising seen
