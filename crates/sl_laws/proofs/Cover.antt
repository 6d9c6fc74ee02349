-- Capped demand is covered by whatever takes in the demand of its pools.
use Rattle.std.proofs.Common.{◌≡◌, ℕ, ◌+◌, ◌≤◌, ◌⊎◌, zero, suc, min, true, length, sum_by, ⊎_elim, arith}
use Rattle.std.specs.List.{range_with_len}
use Rattle.sl_types.specs.declared.kinds.TheConstants.{MAX_DEPTH}
use Rattle.sl_types.specs.Market.{Market, quota_of, children_of}
use Rattle.sl_laws.specs.Limits.{Limits, admitted_directly, demand_within, capped_demand}
use Rattle.sl_laws.proofs.Lists.{sum_by_filter_le}
use Rattle.sl_laws.proofs.Nest.{is_child}

-- Low is closed downwards but where g fills the quota, and there g takes in what it is asked for
pub cover_within : (market : Market) (t : Limits) (x : ℕ) (g : ℕ → ℕ) (Low : ℕ → Type 0)
    → ((C : ℕ) → Low C → sum_by (λ D. min (quota_of market D) (g D)) (children_of market C) + length (admitted_directly market t C x) ≤ g C)
    → ((C D : ℕ) → Low C → is_child market C D ≡ true → Low D ⊎ (quota_of market D ≤ g D))
    → (n C : ℕ) → Low C → demand_within market t x n C ≤ g C
unfolding demand_within
cover_within market t x g Low takes shut zero C low = omega arith
cover_within market t x g Low takes shut (suc n) C low =
    let h = sum_by_filter_le (is_child market C) (λ D. min (quota_of market D) (demand_within market t x n D)) (λ D. min (quota_of market D) (g D)) (range_with_len 0 (length market.pools))
    (λ D e. ⊎_elim (λ l. let k = cover_within market t x g Low takes shut n D l in omega (arith, k)) (λ full. omega (arith, full)) (shut C D low e)) in
    let k = takes C low in omega (arith, h, k)

-- over all levels
pub cover : (market : Market) (t : Limits) (x : ℕ) (g : ℕ → ℕ) (Low : ℕ → Type 0)
    → ((C : ℕ) → Low C → sum_by (λ D. min (quota_of market D) (g D)) (children_of market C) + length (admitted_directly market t C x) ≤ g C)
    → ((C D : ℕ) → Low C → is_child market C D ≡ true → Low D ⊎ (quota_of market D ≤ g D))
    → (C : ℕ) → Low C → capped_demand market t C x ≤ g C
unfolding capped_demand
cover market t x g Low takes shut C low = cover_within market t x g Low takes shut MAX_DEPTH C low
