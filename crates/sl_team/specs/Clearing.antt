-- What a clearing by a team answers.
use Rattle.std.specs.Prelude.{◌≡◌, ℕ, ◌+◌, ◌<◌, ◌≤◌, List, [], length, slice_index, slice_index_or}
use Rattle.sl_types.specs.declared.kinds.Raise.{Raise}
use Rattle.sl_types.specs.Market.{Market}
use Rattle.sl_laws.specs.Raises.{without_void}
use Rattle.sl_floor.specs.Ending.{Closing, IsOrdered}

-- the limits, the raises that prove them, what the looks saw, and the receipt of the floor
pub record ClearedValue : Type 0 where
  pub limits : List ℕ
  pub raises : List Raise
  pub seen : List (List ℕ)
  pub receipt : Closing

-- a receipt of a floor over this instance that opened with these kept raises
pub record IsReceiptOf (market : Market) (kept : List Raise) (receipt : Closing) : Type 0 where
  pub market_is : receipt.market ≡ market
  pub kept_is : receipt.kept ≡ kept

-- the raises are the receipt's whole log in order of ticket, without the void ones
abbrev pub AreLoggedRaises : Market → ClearedValue → Type 0
AreLoggedRaises market cleared =
    (ordered : List Raise) → IsOrdered cleared.receipt.log ordered
    → cleared.raises ≡ without_void market ordered

-- a vector is at most another, pool by pool, and has as many numbers
pub record IsAtMost (limits seen : List ℕ) : Type 0 where
  pub each : length seen ≡ length limits
  pub low : (P : ℕ) → slice_index seen P ≤ slice_index limits P

-- each look saw at least what the look before saw
abbrev pub AreRising : List (List ℕ) → Type 0
AreRising seen =
    (k : ℕ) → k + 1 < length seen
    → IsAtMost (slice_index_or seen (k + 1) []) (slice_index_or seen k [])
