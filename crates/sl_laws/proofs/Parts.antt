-- Who is admitted in a pool is admitted directly in it, or in one of the pools directly inside.
use Rattle.std.proofs.Common.{◌≡◌, ◌-◌, ◌≢◌, ℕ, ◌+◌, ◌<◌, ◌≤◌, ◌⊎◌, zero, suc, Bool, true, false, true≢false, ◌&&◌, ◌||◌, nat_eq, nat_le, List, [], ◌∷◌, length, filter, sum_by, Option, Some, None, sym, refl, ap, ◌∙◌, subst, ⊎_elim, inl, inr, arith}
use Rattle.std.specs.List.{range_with_len}
use Rattle.std.proofs.lemmas.Bool.{eqb-true, eq-eqb, ne_eqb, or_cases, cases_lt, cases_Bool, false_from_ne_true}
use Rattle.std.proofs.lemmas.List.{get_or_past}
use Rattle.sl_types.specs.declared.kinds.PoolId.{PoolId}
use Rattle.sl_types.specs.declared.kinds.Entry.{Entry}
use Rattle.sl_types.specs.declared.kinds.TheConstants.{MAX_DEPTH}
use Rattle.sl_types.specs.Market.{Market, pool_of, no_pool, parent_of, climb, outward, chain_of, lies_in, is_parent, children_of}
use Rattle.sl_types.specs.WellFormed.{IsWellFormed}
use Rattle.sl_laws.specs.Limits.{Limits, admitted_choice, admitted_directly, passes}
use Rattle.sl_laws.proofs.Lists.{bit, count_split, sum_by_same, sum_by_plus, sum_by_zero, sum_by_filter_same, range_once}
use Rattle.sl_laws.proofs.Effective.{among}
use Rattle.sl_laws.proofs.Nest.{is_child, depth, own_round, round_child, depth_child, lies_cases}
use Rattle.sl_laws.proofs.Direct.{is_directly}

-- the test that the applicants admitted in C or inside it with a score of at least x pass
abbrev pub is_within : Market → Limits → ℕ → ℕ → List Entry → Bool
is_within market t C x choices = passes (λ e. lies_in market (pool_of market e) C && nat_le x e.score) (admitted_choice market t choices)

-- these applicants
abbrev pub admitted_within : Market → Limits → ℕ → ℕ → List (List Entry)
admitted_within market t C x = filter (is_within market t C x) market.lists

-- a pool has no parent, or one
abbrev pub HasParent : Market → ℕ → Type 0
HasParent market Q = ((chain_of market Q ≡ Q ∷ []) × ((C : ℕ) → is_child market C Q ≡ false)) ⊎ ((R : ℕ) × (is_child market R Q ≡ true) × ((C : ℕ) → is_child market C Q ≡ nat_eq R C))

-- each pool has no parent, or one
pub has_parent : (market : Market) (Q : ℕ) (o : Option PoolId) → parent_of market Q ≡ o → HasParent market Q
has_parent market Q None e = inl (own_round market Q ∙ ap (λ o. Q ∷ outward (climb market (MAX_DEPTH - 1)) o) e, λ C. ap (is_parent C) e)
has_parent market Q (Some R) e = inr (R.0, ap (is_parent R.0) e ∙ eq-eqb R.0 R.0 refl, λ C. ap (is_parent C) e)

-- a pool that has a parent is in range
pub child_in : (market : Market) (C Q : ℕ) → is_child market C Q ≡ true → Q < length market.pools
child_in market C Q e = ⊎_elim (λ h. h) (λ past. absurd (true≢false (sym e ∙ ap (λ p. is_parent C p.parent) (get_or_past market.pools Q no_pool past)))) (cases_lt Q (length market.pools))

module _ (market : Market) (ok : IsWellFormed market) where
  -- what a pool lies in is no deeper
  lies_depth_from : (n Q P : ℕ) → depth market Q ≤ n → lies_in market Q P ≡ true → depth market P ≤ depth market Q
  lies_depth_from zero Q P h l = let a : depth market Q ≡ suc (length (outward (climb market (MAX_DEPTH - 1)) (parent_of market Q))) = ap length (own_round market Q) in absurd (omega (arith, a, h))
  lies_depth_from (suc n) Q P h l = ⊎_elim
      (λ top. let e : nat_eq Q P || false ≡ true = sym (ap (among P) top.0) ∙ l in
      ⊎_elim (λ s. let a : depth market Q ≡ depth market P = ap (depth market) (eqb-true Q P s) in omega (arith, a)) (λ f. absurd (true≢false (sym f))) (or_cases (nat_eq Q P) false e))
      (λ up. let R : ℕ = up.0 in let d = depth_child market ok R Q up.1 in
      ⊎_elim (λ s. let a : depth market Q ≡ depth market P = ap (depth market) s in omega (arith, a))
      (λ m. let i = lies_depth_from n R P (omega (arith, d, h)) m in omega (arith, i, d)) (lies_cases market ok R Q P up.1 l))
      (has_parent market Q (parent_of market Q) refl)

  -- a pool round is no deeper
  pub lies_depth : (Q P : ℕ) → lies_in market Q P ≡ true → depth market P ≤ depth market Q
  lies_depth Q P l = lies_depth_from (depth market Q) Q P (omega arith) l

  -- the parent doesn't lie in its child
  pub parent_outside : (R Q : ℕ) → is_child market R Q ≡ true → lies_in market R Q ≡ false
  parent_outside R Q e = false_from_ne_true (lies_in market R Q) (λ l. let a = lies_depth R Q l in let d = depth_child market ok R Q e in omega (arith, a, d))

  bit_or : (a b : Bool) → (a ≡ true → b ≡ false) → bit (a || b) ≡ bit a + bit b
  bit_or true true h = absurd (true≢false (h refl))
  bit_or true false h = omega arith
  bit_or false b h = omega arith

  -- where Q has a parent, it is in C itself or its parent is
  step : (R Q C : ℕ) → is_child market R Q ≡ true → bit (lies_in market Q C) ≡ bit (nat_eq Q C) + bit (lies_in market R C)
  step R Q C e = ap (λ Qs. bit (among C Qs)) (round_child market ok R Q e) ∙ bit_or (nat_eq Q C) (lies_in market R C)
      (λ s. let is : Q ≡ C = eqb-true Q C s in subst (λ (S : ℕ). lies_in market R S ≡ false) is (parent_outside R Q e))

  alone : (Q C : ℕ) → chain_of market Q ≡ Q ∷ [] → bit (lies_in market Q C) ≡ bit (nat_eq Q C)
  alone Q C e = ap (λ Qs. bit (among C Qs)) e ∙ (bit_or (nat_eq Q C) false (λ s. refl) ∙ omega arith)

  -- a pool inside C is C, or lies in just one of the pools directly inside C
  pub split_from : (n Q C : ℕ) → depth market Q ≤ n → sum_by (λ D. bit (lies_in market Q D)) (children_of market C) + bit (nat_eq Q C) ≡ bit (lies_in market Q C)
  split_from zero Q C h = let a : depth market Q ≡ suc (length (outward (climb market (MAX_DEPTH - 1)) (parent_of market Q))) = ap length (own_round market Q) in absurd (omega (arith, a, h))
  split_from (suc n) Q C h = ⊎_elim
      (λ top. let none = sum_by_filter_same (is_child market C) (λ D. bit (lies_in market Q D)) (λ D. 0) (range_with_len 0 (length market.pools))
      (λ D e. let other : Q ≢ D = λ s. true≢false (sym e ∙ (ap (is_child market C) (sym s) ∙ top.1 C)) in let a : bit (nat_eq Q D) ≡ 0 = ap bit (ne_eqb Q D other) in let b = alone Q D top.0 in omega (arith, a, b)) in
      let z = sum_by_zero (children_of market C) in let b = alone Q C top.0 in omega (arith, none, z, b))
      (λ up. let R : ℕ = up.0 in let d = depth_child market ok R Q up.1 in
      let a = sum_by_same (λ D. bit (lies_in market Q D)) (λ D. bit (nat_eq Q D) + bit (lies_in market R D)) (children_of market C) (λ D. step R Q D up.1) in
      let b = sum_by_plus (λ D. bit (nat_eq Q D)) (λ D. bit (lies_in market R D)) (children_of market C) in
      let c = range_once (is_child market C) Q 0 (length market.pools) (omega arith) (let k = child_in market R Q up.1 in omega (arith, k)) in
      let f : bit (is_child market C Q) ≡ bit (nat_eq R C) = ap bit (up.2 C) in
      let ih = split_from n R C (omega (arith, d, h)) in
      let g = step R Q C up.1 in omega (arith, a, b, c, f, ih, g))
      (has_parent market Q (parent_of market Q) refl)

  split_choice : (C x : ℕ) (o : Option Entry) → sum_by (λ D. bit (passes (λ e. lies_in market (pool_of market e) D && nat_le x e.score) o)) (children_of market C) + bit (passes (λ e. nat_eq (pool_of market e) C && nat_le x e.score) o)
      ≡ bit (passes (λ e. lies_in market (pool_of market e) C && nat_le x e.score) o)
  split_choice C x None = let z = sum_by_zero (children_of market C) in omega (arith, z)
  split_choice C x (Some e) = go (nat_le x e.score) where
    and_bit : (a b : Bool) → b ≡ true → bit (a && b) ≡ bit a
    and_bit true b e = ap bit e
    and_bit false b e = refl

    and_none : (a b : Bool) → b ≡ false → bit (a && b) ≡ 0
    and_none true b e = ap bit e
    and_none false b e = refl

    go : (b : Bool) → sum_by (λ D. bit (lies_in market (pool_of market e) D && b)) (children_of market C) + bit (nat_eq (pool_of market e) C && b) ≡ bit (lies_in market (pool_of market e) C && b)
    go b = let Q : ℕ = pool_of market e in ⊎_elim
        (λ t. let k = split_from (depth market Q) Q C (omega arith) in
        let a = sum_by_same (λ D. bit (lies_in market Q D && b)) (λ D. bit (lies_in market Q D)) (children_of market C) (λ D. and_bit (lies_in market Q D) b t) in
        let c = and_bit (nat_eq Q C) b t in let d = and_bit (lies_in market Q C) b t in omega (arith, k, a, c, d))
        (λ f. let z = sum_by_zero (children_of market C) in
        let a = sum_by_same (λ D. bit (lies_in market Q D && b)) (λ D. 0) (children_of market C) (λ D. and_none (lies_in market Q D) b f) in
        let c = and_none (nat_eq Q C) b f in let d = and_none (lies_in market Q C) b f in omega (arith, z, a, c, d))
        (cases_Bool b)

  -- who is admitted in C is admitted in just one of these, or directly in C
  pub parts : (t : Limits) (C x : ℕ) → sum_by (λ D. length (admitted_within market t D x)) (children_of market C) + length (admitted_directly market t C x) ≡ length (admitted_within market t C x)
  parts t C x = count_split (λ D. is_within market t D x) (is_directly market t C x) (is_within market t C x) (children_of market C) (λ cs. split_choice C x (admitted_choice market t cs)) market.lists
