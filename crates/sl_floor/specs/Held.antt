-- What holds of each seat by itself, and what it has in memory.
use Rattle.std.specs.Prelude.{◌≡◌, ℕ, ◌<◌, ◌≤◌, ◌+◌, Bool, List, All, length, slice_index}
use Rattle.sl_types.specs.declared.kinds.PoolId.{PoolId}
use Rattle.sl_types.specs.declared.kinds.TheConstants.{MAX_SCORE}
use Rattle.sl_types.specs.Market.{Market}
use Rattle.sl_laws.specs.Limits.{Limits}
use Rattle.sl_laws.specs.Stable.{IsStable}
use Rattle.sl_core.specs.declared.kinds.Phase.{Phase}
use Rattle.sl_core.specs.declared.kinds.Phase.TheVariants.{Idle, Working, Ready, Drawn, Owing}
use Rattle.sl_core.specs.Parts.{HasSizes}
use Rattle.sl_floor.specs.declared.shares.TheConstants.{WHOLE_SHARE, FIRST_ALLOWANCE}
use Rattle.sl_floor.specs.Floor.{Sitting, word_count}

-- each number is at most the greatest limit
abbrev pub AreLimits : List ℕ → Type 0
AreLimits numbers = All (λ x. x ≤ MAX_SCORE + 1) numbers

-- no number is above a stable limit of its pool
abbrev pub PassNone : Market → List ℕ → Type 0
PassNone market numbers =
    (l : Limits) → IsStable market l → (Q : ℕ) → slice_index numbers Q ≤ l Q

-- A seat has an item for each pool in each list of its actor, and its numbers are limits, none
-- above a stable one. It has no more than the whole share and the first allowance.
pub record IsSeated (view : Sitting) : Type 0 where
  pub sizes : HasSizes view.market view.actor
  pub limits : AreLimits view.actor.known
  pub low : PassNone view.market view.actor.known
  pub share : view.share ≤ WHOLE_SHARE
  pub allowance : view.allowance ≤ FIRST_ALLOWANCE

-- what callers are told of it: an item for each pool, limits, and a count of steps for each word
pub record IsSized (view : Sitting) : Type 0 where
  pub lists : HasSizes view.market view.actor
  pub limits : AreLimits view.actor.known
  pub steps : length view.steps ≡ word_count view.market

-- the pool and the limit that a seat holds, by its phase
abbrev pub HoldsInHand : ℕ → Phase → PoolId → ℕ → Type 0
HoldsInHand pools Idle pool limit = Unit {0}
HoldsInHand pools (Working P) pool limit = (P ≡ pool) × (pool.0 < pools)
HoldsInHand pools (Ready P x) pool limit = (P ≡ pool) × (pool.0 < pools)
HoldsInHand pools (Drawn P x) pool limit = (P ≡ pool) × (pool.0 < pools) × (x ≡ limit)
HoldsInHand pools (Owing P) pool limit = Unit {0}

-- what a seat holds in memory, against what its view says
pub record Holds (view : Sitting) (known : List ℕ) (left : List Bool) (share allowance : ℕ)
    (pool : PoolId) (limit : ℕ) : Type 0 where
  pub known_is : view.actor.known ≡ known
  pub left_is : view.actor.left ≡ left
  pub share_is : view.share ≡ share
  pub allowance_is : view.allowance ≡ allowance
  pub in_hand : HoldsInHand (length view.market.pools) view.actor.phase pool limit
  pub seated : IsSeated view
  pub steps : length view.steps ≡ word_count view.market
