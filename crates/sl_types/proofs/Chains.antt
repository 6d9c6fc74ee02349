-- A pool and the pools round it, from pool to pool.
use Rattle.std.proofs.Common.{◌≡◌, ◌≤◌, ◌<◌, ◌-◌, ℕ, zero, suc, true, false, List, [], ◌∷◌, length, nat_eq, All, Option, Some, None, refl, sym, ap, subst, arith, inl, inr, true≢false, eqb-true}
use Rattle.std.specs.List.{list_any, IsDistinct}
use Rattle.std.proofs.lemmas.Bool.{cases_Bool, or_cases}
use Rattle.sl_types.specs.declared.kinds.PoolId.{PoolId}
use Rattle.sl_types.specs.declared.kinds.TheConstants.{MAX_DEPTH}
use Rattle.sl_types.specs.Market.{Market, parent_of, climb, outward, chain_of}
use Rattle.sl_types.specs.WellFormed.{IsWellFormed}
use Rattle.sl_types.proofs.Walks.{apart}

-- lists of pools that agree where they are short, from a pool or from none
pub outward_more : (f g : ℕ → List ℕ) (n : ℕ) → ((Q : ℕ) → length (f Q) ≤ n → f Q ≡ g Q) → (o : Option PoolId) → length (outward f o) ≤ n → outward f o ≡ outward g o
outward_more f g n more None h = refl
outward_more f g n more (Some Q) h = more Q.0 h

-- one level more leads no further where the way is shorter
pub climb_more : (market : Market) (n P : ℕ) → length (climb market (suc n) P) ≤ n → climb market (suc n) P ≡ climb market n P
unfolding climb
climb_more market zero P h = absurd (omega arith)
climb_more market (suc n) P h = ap (λ Qs. P ∷ Qs) (outward_more (climb market (suc n)) (climb market n) n (climb_more market n) (parent_of market P) (omega arith))

All-none : (p : ℕ → Type 0) → All p []
All-none p k d lt = absurd (omega (arith, lt))

All-first : (p : ℕ → Type 0) (x : ℕ) (xs : List ℕ) → p x → All p xs → All p (x ∷ xs)
All-first p x xs here rest zero d lt = here
All-first p x xs here rest (suc k) d lt = rest k d (omega (arith, lt))

module _ (market : Market) (ok : IsWellFormed market) where
  -- a pool, and then its parent and the pools round that
  pub chain_step : (P : ℕ) → chain_of market P ≡ P ∷ outward (chain_of market) (parent_of market P)
  unfolding chain_of climb
  chain_step P =
      let few : suc (length (outward (climb market MAX_DEPTH) (parent_of market P))) ≤ MAX_DEPTH = ok.depth P in
      ap (λ Qs. P ∷ Qs) (sym (outward_more (climb market MAX_DEPTH) (climb market (MAX_DEPTH - 1)) (MAX_DEPTH - 1) (climb_more market (MAX_DEPTH - 1)) (parent_of market P) (omega (arith, few))))

  -- a pool on the way has fewer pools round it
  shorter : (n Q d : ℕ) (o : Option PoolId) → list_any (λ R. nat_eq R Q) (outward (climb market n) o) ≡ true → length (outward (chain_of market) o) < d → length (chain_of market Q) < d
  unfolding climb
  shorter n Q d None h few = absurd (true≢false (sym h))
  shorter zero Q d (Some R) h few = absurd (true≢false (sym h))
  shorter (suc n) Q d (Some R) h few = elim (or_cases (nat_eq R.0 Q) (list_any (λ S. nat_eq S Q) (outward (climb market n) (parent_of market R.0))) h) [
    | inl here ↦ subst (λ (S : ℕ). length (chain_of market S) < d) (eqb-true R.0 Q here) few
    | inr later ↦ let step = ap (λ (Qs : List ℕ). length Qs) (chain_step R.0) in shorter n Q d (parent_of market R.0) later (omega (arith, step, few))
  ]

  -- no pool lies round itself
  never_round : (n P : ℕ) → list_any (λ R. nat_eq R P) (outward (climb market n) (parent_of market P)) ≡ false
  never_round n P = elim (cases_Bool (list_any (λ R. nat_eq R P) (outward (climb market n) (parent_of market P)))) [
    | inl met ↦
        let step = ap (λ (Qs : List ℕ). length Qs) (chain_step P) in
        let less = shorter n P (length (chain_of market P)) (parent_of market P) met (omega (arith, step)) in
        absurd (omega (arith, less))
    | inr none ↦ none
  ]

  climb_once : (n : ℕ) (o : Option PoolId) → IsDistinct nat_eq (outward (climb market n) o)
  unfolding climb IsDistinct
  climb_once n None = tt
  climb_once zero (Some Q) = tt
  climb_once (suc n) (Some Q) = (apart Q.0 (outward (climb market n) (parent_of market Q.0)) (never_round n Q.0), climb_once n (parent_of market Q.0))

  -- none of them comes twice
  pub chain_once : (P : ℕ) → IsDistinct nat_eq (chain_of market P)
  unfolding chain_of
  chain_once P = climb_once MAX_DEPTH (Some (record { 0 = P }))

  -- the pools round a pool are pools of the list
  climb_within : (n P : ℕ) → P < length market.pools → All (λ Q. Q < length market.pools) (climb market n P)
  unfolding climb
  climb_within zero P lt = All-none (λ Q. Q < length market.pools)
  climb_within (suc n) P lt = All-first (λ Q. Q < length market.pools) P (outward (climb market n) (parent_of market P)) lt (further (λ Q. climb_within n Q) (parent_of market P) (ok.parents P)) where
    further : ((Q : ℕ) → Q < length market.pools → All (λ Q. Q < length market.pools) (climb market n Q)) → (o : Option PoolId) → ((Q : PoolId) → o ≡ Some Q → Q.0 < length market.pools)
        → All (λ Q. Q < length market.pools) (outward (climb market n) o)
    further h None inside = All-none (λ Q. Q < length market.pools)
    further h (Some Q) inside = h Q.0 (inside Q refl)

  pub chain_within : (P : ℕ) → P < length market.pools → All (λ Q. Q < length market.pools) (chain_of market P)
  unfolding chain_of
  chain_within P lt = climb_within MAX_DEPTH P lt
