-- Steps from pool to pool outwards, as lists that say for each pool where so many steps lead.
use Rattle.std.specs.Prelude.{◌≡◌, ◌<◌, ℕ, zero, suc, Bool, false, List, length, get_or, map, Option, Some, None}
use Rattle.std.specs.List.{list_any}
use Rattle.sl_types.specs.declared.kinds.Pool.{Pool}
use Rattle.sl_types.specs.declared.kinds.PoolId.{PoolId}
use Rattle.sl_types.specs.Market.{is_parent}

-- where the steps lead from a pool, and from none to none
abbrev pub onward : List (Option PoolId) → Option PoolId → Option PoolId
onward steps None = None
onward steps (Some Q) = get_or steps Q.0 None

-- the steps taken twice
abbrev pub doubled : List (Option PoolId) → List (Option PoolId)
doubled steps = map (onward steps) steps

-- each pool is marked that some step leads to
abbrev pub AreMarked : List (Option PoolId) → List Bool → Type 0
AreMarked steps marks = (Q : ℕ) → Q < length steps → get_or marks Q false ≡ list_any (is_parent Q) steps

-- where 2 to the n steps outwards lead from each pool
unfoldable pub leaps : ℕ → List Pool → List (Option PoolId)
leaps zero pools = map (λ p. p.parent) pools
leaps (suc n) pools = doubled (leaps n pools)
