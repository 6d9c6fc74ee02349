-- Walks from a pool outwards: what so many steps lead to, against the list of pools on the way.
use Rattle.std.proofs.Common.{◌≡◌, ◌≤◌, ◌<◌, ◌+◌, ◌*◌, ℕ, zero, suc, true, false, List, [], ◌∷◌, length, nat_eq, Option, Some, None, refl, sym, ap, ◌∙◌, subst, arith, inl, inr, true≢false, eqb-true, eq-eqb}
use Rattle.std.specs.Prelude.{is_some}
use Rattle.std.specs.List.{list_any, IsDistinct, AllByRecursion}
use Rattle.std.proofs.lemmas.Bool.{cases_Bool, or_cases, or_left, or_right, or_parts, cases_lt}
use Rattle.std.proofs.lemmas.List.{get_or_past}
use Rattle.std.proofs.lemmas.Option.{none-some}
use Rattle.sl_types.specs.declared.kinds.Pool.{Pool}
use Rattle.sl_types.specs.declared.kinds.PoolId.{PoolId}
use Rattle.sl_types.specs.Market.{Market, parent_of, climb, outward, is_parent, no_pool}

-- the pool of a number
abbrev pub pool_id : ℕ → PoolId
pool_id P = record { 0 = P }

pub parent_is : (P : ℕ) (o : Option PoolId) → is_parent P o ≡ true → o ≡ Some (pool_id P)
parent_is P None h = absurd (true≢false (sym h))
parent_is P (Some Q) h = ap (λ (n : ℕ). Some (pool_id n)) (eqb-true Q.0 P h)

-- the number of a pool, if there is one
abbrev pub number_of : ℕ → Option PoolId → ℕ
number_of P None = P
number_of P (Some Q) = Q.0

pub parent_at : (P : ℕ) (o : Option PoolId) → o ≡ Some (pool_id P) → is_parent P o ≡ true
parent_at P None h = absurd (none-some (pool_id P) h)
parent_at P (Some Q) h = eq-eqb Q.0 P (ap (number_of P) h)

pub flip : (a b : ℕ) → nat_eq a b ≡ nat_eq b a
flip a b = elim (cases_Bool (nat_eq a b)) [
  | inl same ↦ same ∙ sym (eq-eqb b a (sym (eqb-true a b same)))
  | inr other ↦ elim (cases_Bool (nat_eq b a)) [
    | inl same ↦ absurd (true≢false (sym (eq-eqb a b (sym (eqb-true b a same))) ∙ other))
    | inr either ↦ other ∙ sym either
  ]
]

-- a number that a list doesn't have differs from each of it
pub apart : (y : ℕ) (xs : List ℕ) → list_any (λ z. nat_eq z y) xs ≡ false → AllByRecursion (λ z. nat_eq y z ≡ false) xs
apart y [] h = tt
apart y (x ∷ xs) h = let parts = or_parts (nat_eq x y) (list_any (λ z. nat_eq z y) xs) h in (flip y x ∙ parts.0, apart y xs parts.1)

module _ (market : Market) where
  -- the parent of a pool, and none of none
  abbrev pub up : Option PoolId → Option PoolId
  up None = None
  up (Some Q) = parent_of market Q.0

  -- n steps outwards
  unfoldable pub go : ℕ → Option PoolId → Option PoolId
  go zero o = o
  go (suc n) o = go n (up o)

  pub go_none : (n : ℕ) → go n None ≡ None
  unfolding go
  go_none zero = refl
  go_none (suc n) = go_none n

  pub go_more : (m n : ℕ) (o : Option PoolId) → go (m + n) o ≡ go n (go m o)
  unfolding go
  go_more zero n o = let e : 0 + n ≡ n = omega arith in ap (λ (k : ℕ). go k o) e
  go_more (suc m) n o = let e : suc m + n ≡ suc (m + n) = omega arith in ap (λ (k : ℕ). go k o) e ∙ go_more m n (up o)

  -- a pool on the way is met after some steps
  pub met : (n : ℕ) (o : Option PoolId) (P : ℕ) → list_any (λ Q. nat_eq Q P) (outward (climb market n) o) ≡ true → (d : ℕ) × (d < n) × (go d o ≡ Some (pool_id P))
  unfolding climb go
  met n None P h = absurd (true≢false (sym h))
  met zero (Some Q) P h = absurd (true≢false (sym h))
  met (suc n) (Some Q) P h = elim (or_cases (nat_eq Q.0 P) (list_any (λ Q. nat_eq Q P) (outward (climb market n) (parent_of market Q.0))) h) [
    | inl here ↦ (0, omega arith, parent_is P (Some Q) here)
    | inr later ↦ let (d, lt, is) = met n (parent_of market Q.0) P later in (suc d, omega (arith, lt), is)
  ]

  pub meets : (n d : ℕ) (o : Option PoolId) (P : ℕ) → d < n → go d o ≡ Some (pool_id P) → list_any (λ Q. nat_eq Q P) (outward (climb market n) o) ≡ true
  unfolding climb go
  meets n d None P lt h = absurd (none-some (pool_id P) (sym (go_none d) ∙ h))
  meets zero d (Some Q) P lt h = absurd (omega (arith, lt))
  meets (suc n) zero (Some Q) P lt h = or_left (nat_eq Q.0 P) _ (parent_at P (Some Q) h)
  meets (suc n) (suc d) (Some Q) P lt h = or_right (nat_eq Q.0 P) _ (meets n d (parent_of market Q.0) P (omega (arith, lt)) h)

  nowhere : (o : Option PoolId) → length (outward (climb market 0) o) ≡ 0
  unfolding climb
  nowhere None = refl
  nowhere (Some Q) = refl

  -- as many pools on the way as steps, and one, where the walk goes on
  pub goes_on : (n : ℕ) (o : Option PoolId) → is_some (go n o) ≡ true → length (outward (climb market (suc n)) o) ≡ suc n
  unfolding climb go
  goes_on n None h = absurd (true≢false (sym h ∙ ap is_some (go_none n)))
  goes_on zero (Some Q) h = ap suc (nowhere (parent_of market Q.0))
  goes_on (suc n) (Some Q) h = ap suc (goes_on n (parent_of market Q.0) h)

  -- at most as many as steps, where it ends
  pub ends : (n : ℕ) (o : Option PoolId) → is_some (go n o) ≡ false → length (outward (climb market (suc n)) o) ≤ n
  unfolding climb go
  ends n None h = omega arith
  ends zero (Some Q) h = absurd (true≢false h)
  ends (suc n) (Some Q) h = let k = ends n (parent_of market Q.0) h in omega (arith, k)

  has_parent : (j y P : ℕ) → go j (parent_of market y) ≡ Some (pool_id P) → y < length market.pools
  has_parent j y P h = elim (cases_lt y (length market.pools)) [
    | inl lt ↦ lt
    | inr past ↦ absurd (none-some (pool_id P) (sym (ap (go j) (ap (λ (p : Pool). p.parent) (get_or_past market.pools y no_pool past)) ∙ go_none j) ∙ h))
  ]

  -- the members of a walk that goes on are pools of the list
  pub within : (k j : ℕ) (o : Option PoolId) (P q : ℕ) → k ≤ j → go j o ≡ Some (pool_id P) → list_any (nat_eq q) (outward (climb market k) o) ≡ true → q < length market.pools
  unfolding climb go
  within k j None P q le h has = absurd (true≢false (sym has))
  within zero j (Some Q) P q le h has = absurd (true≢false (sym has))
  within (suc k) zero (Some Q) P q le h has = absurd (omega (arith, le))
  within (suc k) (suc j) (Some Q) P q le h has = elim (or_cases (nat_eq q Q.0) (list_any (nat_eq q) (outward (climb market k) (parent_of market Q.0))) has) [
    | inl here ↦ subst (λ (z : ℕ). z < length market.pools) (sym (eqb-true q Q.0 here)) (has_parent j Q.0 P h)
    | inr later ↦ within k j (parent_of market Q.0) P q (omega (arith, le)) h later
  ]

  -- so many times round a ring
  pub round : (k d P : ℕ) → go d (Some (pool_id P)) ≡ Some (pool_id P) → go (k * d) (Some (pool_id P)) ≡ Some (pool_id P)
  unfolding go
  round zero d P h = let e : 0 * d ≡ 0 = omega arith in ap (λ (m : ℕ). go m (Some (pool_id P))) e
  round (suc k) d P h =
      let e : suc k * d ≡ d + k * d = omega arith in
      ap (λ (m : ℕ). go m (Some (pool_id P))) e ∙ go_more d (k * d) (Some (pool_id P)) ∙ ap (go (k * d)) h ∙ round k d P h

  -- a pool met again on the way to P makes a ring through P
  again : (j d : ℕ) (Q : PoolId) (P : ℕ) → go (suc j) (Some Q) ≡ Some (pool_id P) → go (suc d) (Some Q) ≡ Some Q → go (suc d) (Some (pool_id P)) ≡ Some (pool_id P)
  again j d Q P h e =
      let one : suc j + suc d ≡ suc d + suc j = omega arith in
      ap (go (suc d)) (sym h) ∙ sym (go_more (suc j) (suc d) (Some Q)) ∙ ap (λ (m : ℕ). go m (Some Q)) one ∙ go_more (suc d) (suc j) (Some Q) ∙ ap (go (suc j)) e ∙ h

  -- where a walk leads to a pool that is in no ring of at most n pools, no pool is met twice on the way
  pub no_repeats : (n k j : ℕ) (o : Option PoolId) (P : ℕ) → k ≤ suc n → k ≤ j → go j o ≡ Some (pool_id P)
      → ((d : ℕ) → d < n → go (suc d) (Some (pool_id P)) ≡ Some (pool_id P) → ⊥) → IsDistinct nat_eq (outward (climb market k) o)
  unfolding climb go IsDistinct
  no_repeats n k j None P few le h never = tt
  no_repeats n zero j (Some Q) P few le h never = tt
  no_repeats n (suc k) zero (Some Q) P few le h never = absurd (omega (arith, le))
  no_repeats n (suc k) (suc j) (Some Q) P few le h never =
      let y : ℕ = Q.0 in
      let not_met : list_any (λ z. nat_eq z y) (outward (climb market k) (parent_of market y)) ≡ false =
      elim (cases_Bool (list_any (λ z. nat_eq z y) (outward (climb market k) (parent_of market y)))) [
        | inl has ↦ let (d, lt, is) = met k (parent_of market y) y has in absurd (never d (omega (arith, lt, few)) (again j d Q P h is))
        | inr none ↦ none
      ] in
      (apart y (outward (climb market k) (parent_of market y)) not_met, no_repeats n k j (parent_of market y) P (omega (arith, few)) (omega (arith, le)) h never)
