-- Effective limits, and the counts that follow from them.
use Rattle.std.proofs.Common.{◌≡◌, ◌-◌, ◌≢◌, ℕ, zero, suc, ◌<◌, ◌≤◌, Bool, true, false, List, [], ◌∷◌, get_or, length, All, Option, Some, None, refl, sym, ap, ◌∙◌, arith, inl, inr, true≢false, nat_eq, subst, eq-eqb, eqb-true, le-leb, leb-true}
use Rattle.std.proofs.lemmas.Bool.{cases_Bool, or_cases, or_left, or_right}
use Rattle.std.specs.List.{list_any}
use Rattle.sl_types.specs.declared.kinds.PoolId.{PoolId}
use Rattle.sl_types.specs.declared.kinds.Rule.TheVariants.{Merit}
use Rattle.sl_types.specs.declared.kinds.TheConstants.{MAX_DEPTH}
use Rattle.sl_types.specs.Market.{Market, pool_of, parent_of, rule_of, climb, outward, chain_of, lies_in}
use Rattle.sl_types.specs.WellFormed.{IsWellFormed}
use Rattle.sl_laws.specs.Limits.{Limits, with_limit, greatest_of, effective_limit, is_eligible, is_admitted_in, count_in}
use Rattle.sl_laws.proofs.Choices.{filter_more, admits_more}

-- a number of a list, as a test
abbrev pub among : ℕ → List ℕ → Bool
among Q xs = list_any (λ R. nat_eq R Q) xs

-- the greatest of a list rises with its numbers
pub greatest_more : (f g : ℕ → ℕ) (xs : List ℕ) → ((Q : ℕ) → among Q xs ≡ true → f Q ≤ g Q) → greatest_of f xs ≤ greatest_of g xs
greatest_more f g [] h = omega arith
greatest_more f g (x ∷ xs) h =
    let here : f x ≤ g x = h x (or_left (nat_eq x x) (among x xs) (eq-eqb x x refl)) in
    let rest = greatest_more f g xs (λ Q k. h Q (or_right (nat_eq x Q) (among Q xs) k)) in
    omega (arith, here, rest)

-- and is the same where they are
pub greatest_same : (f g : ℕ → ℕ) (xs : List ℕ) → ((Q : ℕ) → among Q xs ≡ true → f Q ≡ g Q) → greatest_of f xs ≡ greatest_of g xs
greatest_same f g [] h = refl
greatest_same f g (x ∷ xs) h =
    let here : f x ≡ g x = h x (or_left (nat_eq x x) (among x xs) (eq-eqb x x refl)) in
    let rest = greatest_same f g xs (λ Q k. h Q (or_right (nat_eq x Q) (among Q xs) k)) in
    rw (here, rest) refl

-- a replaced number
pub with_limit_here : (t : Limits) (P y : ℕ) → with_limit t P y P ≡ y
with_limit_here t P y = rw (eq-eqb P P refl) refl

-- the others stay
pub with_limit_else : (t : Limits) (P y Q : ℕ) → nat_eq Q P ≡ false → with_limit t P y Q ≡ t Q
with_limit_else t P y Q h = rw h refl

-- outside P its own number doesn't matter
pub effective_outside : (market : Market) (t : Limits) (P y C : ℕ) → lies_in market C P ≡ false → effective_limit market (with_limit t P y) C ≡ effective_limit market t C
effective_outside market t P y C out = greatest_same (with_limit t P y) t (chain_of market C) (λ Q h. elim (cases_Bool (nat_eq Q P)) [
  | inl same ↦ let is : Q ≡ P = eqb-true Q P same in absurd (true≢false (sym (subst (λ R. among R (chain_of market C) ≡ true) is h) ∙ out))
  | inr other ↦ with_limit_else t P y Q other
])

module _ (market : Market) (ok : IsWellFormed market) (P : ℕ) (score : rule_of market P ≢ Merit) where
  outward_alone : (f : ℕ → List ℕ) (o : Option PoolId) → parent_of market P ≡ o → outward f o ≡ []
  outward_alone f None e = refl
  outward_alone f (Some Q) e = absurd (score (ok.nesting P Q e).0)

  -- no pool is round a score pool
  pub round_alone : chain_of market P ≡ P ∷ []
  unfolding chain_of
  round_alone = ap (λ Qs. P ∷ Qs) (outward_alone (climb market (MAX_DEPTH - 1)) (parent_of market P) refl)

  -- a score pool's effective limit is its own number
  pub effective_alone : (t : Limits) → effective_limit market t P ≡ t P
  effective_alone t = ap (greatest_of t) round_alone ∙ omega arith

  -- and none is inside
  climbs_on : (f : ℕ → List ℕ) → ((Q : ℕ) → among P (f Q) ≡ true → Q ≡ P) → (C : ℕ) (o : Option PoolId) → parent_of market C ≡ o → among P (outward f o) ≡ true → C ≡ P
  climbs_on f past C None e h = absurd (true≢false (sym h))
  climbs_on f past C (Some Q) e h = let is : Q.0 ≡ P = past Q.0 h in absurd (score (ap (rule_of market) (sym is) ∙ (ok.nesting C Q e).1))

  climbs_past : (n C : ℕ) → among P (climb market n C) ≡ true → C ≡ P
  unfolding climb
  climbs_past zero C h = absurd (true≢false (sym h))
  climbs_past (suc n) C h = elim (or_cases (nat_eq C P) (among P (outward (climb market n) (parent_of market C))) h) [
    | inl here ↦ eqb-true C P here
    | inr later ↦ climbs_on (climb market n) (climbs_past n) C (parent_of market C) refl later
  ]

  -- no other pool lies inside a score pool
  pub inside_alone : (C : ℕ) → lies_in market C P ≡ true → C ≡ P
  unfolding chain_of
  inside_alone C h = climbs_past MAX_DEPTH C h

-- counts rise where limits inside P fall and the others rise
pub count_more : (market : Market) (t u : Limits) (P : ℕ) → All (λ choices. All (λ e. pool_of market e < length market.pools) choices) market.lists
    → ((C : ℕ) → C < length market.pools → lies_in market C P ≡ true → effective_limit market u C ≤ effective_limit market t C)
    → ((C : ℕ) → C < length market.pools → lies_in market C P ≡ false → effective_limit market t C ≤ effective_limit market u C)
    → count_in market t P ≤ count_in market u P
count_more market t u P inside falls rises = filter_more (is_admitted_in market t P) (is_admitted_in market u P) market.lists
    (λ a none a_in. admits_more (λ e. lies_in market (pool_of market e) P) (is_eligible market t) (is_eligible market u) (get_or market.lists a none)
    (λ k d k_in.
    let e = get_or (get_or market.lists a none) k d in
    let C = pool_of market e in
    let C_in = inside a none a_in k d k_in in (
      (λ within easy. let lower = falls C C_in within in let was = leb-true (effective_limit market t C) e.score easy in le-leb (effective_limit market u C) e.score (omega (arith, lower, was))),
      (λ out easy. let higher = rises C C_in out in let was = leb-true (effective_limit market u C) e.score easy in le-leb (effective_limit market t C) e.score (omega (arith, higher, was))),
    )))
