-- The pools round a pool, effective limits, and how deep capped demand counts.
use Rattle.std.proofs.Common.{◌≡◌, ◌-◌, ◌≢◌, ℕ, ◌+◌, ◌≤◌, ◌⊎◌, zero, suc, min, max, Bool, true, true≢false, nat_eq, List, [], ◌∷◌, length, sum_by, Option, Some, None, sym, refl, ap, ◌∙◌, subst, ⊎_elim, inl, inr, arith}
use Rattle.std.specs.List.{range_with_len}
use Rattle.std.proofs.lemmas.Bool.{eqb-true, eq-eqb, ne_eqb, or_left, or_right, or_cases, cases_eq}
use Rattle.sl_types.specs.declared.kinds.PoolId.{PoolId}
use Rattle.sl_types.specs.declared.kinds.Rule.TheVariants.{Merit}
use Rattle.sl_types.specs.declared.kinds.TheConstants.{MAX_DEPTH}
use Rattle.sl_types.specs.Market.{Market, quota_of, rule_of, parent_of, climb, outward, chain_of, lies_in, is_parent, children_of}
use Rattle.sl_types.specs.WellFormed.{IsWellFormed}
use Rattle.sl_laws.specs.Limits.{Limits, with_limit, greatest_of, effective_limit, admitted_directly, demand_within, capped_demand}
use Rattle.sl_laws.proofs.Lists.{sum_by_filter_le}
use Rattle.sl_laws.proofs.Effective.{among, with_limit_here}
use Rattle.sl_types.proofs.Chains.{climb_more}

-- whether D lies directly inside C
abbrev pub is_child : Market → ℕ → ℕ → Bool
is_child market C D = is_parent C (parent_of market D)

-- how many pools a pool lies in, itself among them
abbrev pub depth : Market → ℕ → ℕ
depth market P = length (chain_of market P)

outward_of : (f : ℕ → List ℕ) (o : Option PoolId) (C : ℕ) → is_parent C o ≡ true → outward f o ≡ f C
outward_of f None C e = absurd (true≢false (sym e))
outward_of f (Some Q) C e = ap f (eqb-true Q.0 C e)

-- the greatest of a list is at most z where each number is
pub greatest_le : (f : ℕ → ℕ) (z : ℕ) (Qs : List ℕ) → ((Q : ℕ) → among Q Qs ≡ true → f Q ≤ z) → greatest_of f Qs ≤ z
greatest_le f z [] h = omega arith
greatest_le f z (R ∷ Rs) h =
    let a = h R (or_left (nat_eq R R) (among R Rs) (eq-eqb R R refl)) in
    let b = greatest_le f z Rs (λ Q k. h Q (or_right (nat_eq R Q) (among Q Rs) k)) in omega arith

-- each number is at most the greatest
pub le_greatest : (f : ℕ → ℕ) (Q : ℕ) (Qs : List ℕ) → among Q Qs ≡ true → f Q ≤ greatest_of f Qs
le_greatest f Q [] h = absurd (true≢false (sym h))
le_greatest f Q (R ∷ Rs) h = ⊎_elim (λ e. let s : f R ≡ f Q = ap f (eqb-true R Q e) in omega arith) (λ k. let i = le_greatest f Q Rs k in omega arith) (or_cases (nat_eq R Q) (among Q Rs) h)

-- an effective limit is at most z where each number round is
pub limit_le : (market : Market) (t : Limits) (P z : ℕ) → ((Q : ℕ) → lies_in market P Q ≡ true → t Q ≤ z) → effective_limit market t P ≤ z
limit_le market t P z h = greatest_le t z (chain_of market P) h

-- each number round is at most the effective limit
pub le_limit : (market : Market) (t : Limits) (P Q : ℕ) → lies_in market P Q ≡ true → t Q ≤ effective_limit market t P
le_limit market t P Q h = le_greatest t Q (chain_of market P) h

-- other numbers than the replaced one stay
pub with_else : (t : Limits) (P y Q : ℕ) → Q ≢ P → with_limit t P y Q ≡ t Q
with_else t P y Q ne = rw (ne_eqb Q P ne) refl

-- P's own number taken as 0
pub without_le : (market : Market) (t : Limits) (P Q : ℕ) → effective_limit market (with_limit t P 0) Q ≤ effective_limit market t Q
without_le market t P Q = limit_le market (with_limit t P 0) Q (effective_limit market t Q) (λ R h. ⊎_elim
    (λ e. let a : with_limit t P 0 R ≡ 0 = ap (with_limit t P 0) e ∙ with_limit_here t P 0 in omega arith)
    (λ ne. let a = with_else t P 0 R ne in let b = le_limit market t Q R h in omega arith) (cases_eq R P))

-- an effective limit without P's own number, and that number
pub le_without : (market : Market) (t : Limits) (P Q z : ℕ) → effective_limit market (with_limit t P 0) Q ≤ z → (lies_in market Q P ≡ true → t P ≤ z) → effective_limit market t Q ≤ z
le_without market t P Q z h own = limit_le market t Q z (λ R k. ⊎_elim
    (λ e. let a = own (subst (λ (S : ℕ). lies_in market Q S ≡ true) e k) in let b : t R ≡ t P = ap t e in omega arith)
    (λ ne. let a = with_else t P 0 R ne in let b = le_limit market (with_limit t P 0) Q R k in omega arith) (cases_eq R P))

-- the pools round P begin with P
pub own_round : (market : Market) (P : ℕ) → chain_of market P ≡ P ∷ outward (climb market (MAX_DEPTH - 1)) (parent_of market P)
unfolding chain_of
own_round market P = refl

-- a pool lies in itself
pub lies_own : (market : Market) (P : ℕ) → lies_in market P P ≡ true
lies_own market P = ap (among P) (own_round market P) ∙ or_left (nat_eq P P) _ (eq-eqb P P refl)

module _ (market : Market) (ok : IsWellFormed market) where
  -- no pool is deeper than the greatest depth
  pub shallow : (P : ℕ) → depth market P ≤ MAX_DEPTH
  unfolding chain_of
  shallow P = let d = ok.depth P in let e = ap length (climb_more market MAX_DEPTH P d) in omega (arith, d, e)

  -- the pools round a child are itself and those of its parent
  pub round_child : (C D : ℕ) → is_child market C D ≡ true → chain_of market D ≡ D ∷ chain_of market C
  unfolding chain_of
  round_child C D e =
      let up = outward_of (climb market (MAX_DEPTH - 1)) (parent_of market D) C e in
      let up' = outward_of (climb market MAX_DEPTH) (parent_of market D) C e in
      let d : suc (length (outward (climb market MAX_DEPTH) (parent_of market D))) ≤ MAX_DEPTH = ok.depth D in
      let l : length (outward (climb market MAX_DEPTH) (parent_of market D)) ≡ length (climb market MAX_DEPTH C) = ap length up' in
      ap (λ Qs. D ∷ Qs) (up ∙ sym (climb_more market (MAX_DEPTH - 1) C (omega (arith, d, l))))

  -- a child is one deeper
  pub depth_child : (C D : ℕ) → is_child market C D ≡ true → depth market D ≡ suc (depth market C)
  depth_child C D e = ap length (round_child C D e)

  -- a child's effective limit is its own number or its parent's effective limit
  pub limit_child : (t : Limits) (C D : ℕ) → is_child market C D ≡ true → effective_limit market t D ≡ max (t D) (effective_limit market t C)
  limit_child t C D e = ap (greatest_of t) (round_child C D e)

  -- a child lies in itself and where its parent lies
  pub lies_cases : (C D P : ℕ) → is_child market C D ≡ true → lies_in market D P ≡ true → (D ≡ P) ⊎ (lies_in market C P ≡ true)
  lies_cases C D P e h = ⊎_elim (λ k. inl (eqb-true D P k)) (λ k. inr k) (or_cases (nat_eq D P) (among P (chain_of market C)) (sym (ap (among P) (round_child C D e)) ∙ h))

  -- where its parent lies, a child lies
  pub lies_child : (C D P : ℕ) → is_child market C D ≡ true → lies_in market C P ≡ true → lies_in market D P ≡ true
  lies_child C D P e h = ap (among P) (round_child C D e) ∙ or_right (nat_eq D P) (among P (chain_of market C)) h

  -- counting deeper than the tree changes nothing
  pub enough : (t : Limits) (x n m C : ℕ) → (MAX_DEPTH + 1) ≤ m + depth market C → demand_within market t x n C ≤ demand_within market t x m C
  unfolding demand_within
  enough t x zero m C h = omega arith
  enough t x (suc n) zero C h = let k = shallow C in absurd (omega (arith, k, h))
  enough t x (suc n) (suc m) C h =
      let k = sum_by_filter_le (is_child market C) (λ D. min (quota_of market D) (demand_within market t x n D)) (λ D. min (quota_of market D) (demand_within market t x m D)) (range_with_len 0 (length market.pools))
      (λ D e. let f = depth_child C D e in let j = enough t x n m D (omega (arith, f, h)) in omega (arith, j)) in omega (arith, k)

  deep : (C : ℕ) → 1 ≤ depth market C
  deep C = let e = ap length (own_round market C) in omega (arith, e)

  -- the equation of capped demand, in two halves
  pub takes : (t : Limits) (C x : ℕ) → sum_by (λ D. min (quota_of market D) (capped_demand market t D x)) (children_of market C) + length (admitted_directly market t C x) ≤ capped_demand market t C x
  unfolding capped_demand
  takes t C x = enough t x (MAX_DEPTH + 1) MAX_DEPTH C (let d = deep C in omega (arith, d))

  -- and it is no more
  pub asks : (t : Limits) (C x : ℕ) → capped_demand market t C x ≤ sum_by (λ D. min (quota_of market D) (capped_demand market t D x)) (children_of market C) + length (admitted_directly market t C x)
  unfolding capped_demand
  asks t C x = enough t x MAX_DEPTH (MAX_DEPTH + 1) C (omega arith)

  merit_of_parent : (C D : ℕ) (o : Option PoolId) → parent_of market D ≡ o → is_parent C o ≡ true → rule_of market D ≡ Merit
  merit_of_parent C D None e h = absurd (true≢false (sym h))
  merit_of_parent C D (Some Q) e h = (ok.nesting D Q e).0

  -- a pool that lies directly inside another is a merit pool
  pub merit_child : (C D : ℕ) → is_child market C D ≡ true → rule_of market D ≡ Merit
  merit_child C D e = merit_of_parent C D (parent_of market D) refl e
