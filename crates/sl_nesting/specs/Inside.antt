-- The pools directly inside a pool, from a number on.
use Rattle.std.specs.Prelude.{◌≡◌, ◌<◌, ◌+◌, ◌-◌, ℕ, List, ◌∷◌, length, filter}
use Rattle.std.specs.List.{range_with_len}
use Rattle.sl_types.specs.declared.kinds.PoolId.{PoolId}
use Rattle.sl_types.specs.Market.{Market, parent_of, is_parent}

-- the pools directly inside P whose numbers are at least low, in rising order
abbrev pub children_from : Market → ℕ → ℕ → List ℕ
children_from market P low =
    filter (λ C. is_parent P (parent_of market C)) (range_with_len low (length market.pools - low))

-- C is a pool, and the first of these
pub record IsNextChild (market : Market) (P low : ℕ) (C : PoolId) : Type 0 where
  pub within : C.0 < length market.pools
  pub first : children_from market P low ≡ C.0 ∷ children_from market P (C.0 + 1)
