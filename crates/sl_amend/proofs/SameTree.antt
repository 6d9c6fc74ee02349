-- Two pools are in one tree exactly where the outermost pools round them are the same.
use Rattle.std.proofs.Common.{◌≡◌, ◌≢◌, ℕ, not, zero, suc, Bool, true, false, ◌&&◌, List, [], ◌∷◌, get_or, nat_eq, Option, Some, None, refl, sym, ap, ◌∙◌, subst, inl, inr, true≢false, eqb-true, eq-eqb}
use Rattle.std.proofs.lemmas.Bool.{or_cases, or_left, or_right, and_right, ne_eqb}
use Rattle.std.proofs.lemmas.List.Folds.{list_any_at}
use Rattle.std.specs.List.{list_any}
use Rattle.sl_types.specs.declared.kinds.Pool.{Pool}
use Rattle.sl_types.specs.declared.kinds.PoolId.{PoolId}
use Rattle.sl_types.specs.declared.kinds.Rule.TheVariants.{Merit}
use Rattle.sl_types.specs.declared.kinds.TheConstants.{MAX_DEPTH}
use Rattle.sl_types.specs.Market.{Market, climb, outward, chain_of, lies_in, parent_of, pool_at, pool_numbers, quota_of}
use Rattle.sl_types.specs.WellFormed.{IsWellFormed}
use Rattle.sl_types.proofs.Chains.{chain_step}
use Rattle.sl_types.proofs.Lists.{any_at}
use Rattle.sl_amend.specs.Amended.{are_in_one_tree, has_other_quota, is_touched_by_quota}
use Rattle.sl_amend.specs.Touched.{last_from, outermost_of, differs_under, is_other_tree}
use Rattle.sl_amend.proofs.Tested.{any_place, same_tests}

-- the last of them is one of them
last_among : (P : ℕ) (Qs : List ℕ) → list_any (λ S. nat_eq S (last_from P Qs)) (P ∷ Qs) ≡ true
last_among P [] = or_left (nat_eq P P) false (eq-eqb P P refl)
last_among P (Q ∷ Qs) = or_right (nat_eq P (last_from Q Qs)) (list_any (λ S. nat_eq S (last_from Q Qs)) (Q ∷ Qs)) (last_among Q Qs)

and_true : (b : Bool) → (b && true) ≡ b
and_true true = refl
and_true false = refl

module _ (market : Market) (ok : IsWellFormed market) where
  -- it is its parent's outermost pool
  of_parent : (P : ℕ) (Q : PoolId) → parent_of market P ≡ Some Q → outermost_of market P ≡ outermost_of market Q.0
  of_parent P Q e = ap (last_from P) (chain_step market ok P ∙ ap (λ (o : Option PoolId). P ∷ outward (chain_of market) o) e)
      ∙ ap (last_from P) (chain_step market ok Q.0) ∙ sym (ap (last_from Q.0) (chain_step market ok Q.0))

  of_outer : (up : ℕ → List ℕ) (P R : ℕ) → ((Q : ℕ) → list_any (λ S. nat_eq S R) (up Q) ≡ true → outermost_of market Q ≡ outermost_of market R)
      → (o : Option PoolId) → parent_of market P ≡ o → list_any (λ S. nat_eq S R) (outward up o) ≡ true → outermost_of market P ≡ outermost_of market R
  of_outer up P R past None e h = absurd (true≢false (sym h))
  of_outer up P R past (Some Q) e h = of_parent P Q e ∙ past Q.0 h

  of_climbed : (n P R : ℕ) → list_any (λ S. nat_eq S R) (climb market n P) ≡ true → outermost_of market P ≡ outermost_of market R
  unfolding climb
  of_climbed zero P R h = absurd (true≢false (sym h))
  of_climbed (suc n) P R h = elim (or_cases (nat_eq P R) (list_any (λ S. nat_eq S R) (outward (climb market n) (parent_of market P))) h) [
    | inl here ↦ ap (outermost_of market) (eqb-true P R here)
    | inr later ↦ of_outer (climb market n) P R (λ Q. of_climbed n Q R) (parent_of market P) refl later
  ]

  -- each pool round P has the same outermost pool
  of_round : (P R : ℕ) → lies_in market P R ≡ true → outermost_of market P ≡ outermost_of market R
  unfolding chain_of
  of_round P R h = of_climbed MAX_DEPTH P R h

  -- the outermost pool is round P
  is_round : (P : ℕ) → lies_in market P (outermost_of market P) ≡ true
  is_round P =
      let rest = outward (chain_of market) (parent_of market P) in
      subst (λ (Qs : List ℕ). list_any (λ S. nat_eq S (last_from P Qs)) Qs ≡ true) (sym (chain_step market ok P)) (last_among P rest)

  one_outermost : (P Q : ℕ) → are_in_one_tree market P Q ≡ true → nat_eq (outermost_of market Q) (outermost_of market P) ≡ true
  one_outermost P Q h =
      let at = any_place (λ R. lies_in market Q R) (chain_of market P) h in
      let R : ℕ = get_or (chain_of market P) at.0 0 in
      let from_P = of_round P R (list_any_at (λ S. nat_eq S R) (chain_of market P) at.0 0 at.1 (eq-eqb R R refl)) in
      eq-eqb (outermost_of market Q) (outermost_of market P) (of_round Q R (at.2 0) ∙ sym from_P)

  in_one_tree : (P Q : ℕ) → nat_eq (outermost_of market Q) (outermost_of market P) ≡ true → are_in_one_tree market P Q ≡ true
  in_one_tree P Q h =
      let same = eqb-true (outermost_of market Q) (outermost_of market P) h in
      any_at (λ R. lies_in market Q R) (outermost_of market P) (chain_of market P) (is_round P) (subst (λ (R : ℕ). lies_in market Q R ≡ true) same (is_round Q))

  pub one_tree_is : (P Q : ℕ) → nat_eq (outermost_of market Q) (outermost_of market P) ≡ are_in_one_tree market P Q
  one_tree_is P Q = same_tests (nat_eq (outermost_of market Q) (outermost_of market P)) (are_in_one_tree market P Q) (in_one_tree P Q) (one_outermost P Q)

-- a merit pool is touched by a quota where its tree is another
pub other_tree_is : (old new : Market) → IsWellFormed old → (P : ℕ) → is_other_tree old new (outermost_of old P) ≡ is_touched_by_quota Merit old new P
other_tree_is old new ok P = ap (λ (same : ℕ → Bool). list_any (λ Q. same Q && has_other_quota old new Q) (pool_numbers old)) (λ i Q. one_tree_is old ok P Q i)

module _ (old new : Market) (n : ℕ) (before after : Pool) (b : before ≡ pool_at old n) (a : after ≡ pool_at new n) where
  quotas : nat_eq after.quota before.quota ≡ nat_eq (quota_of new n) (quota_of old n)
  quotas = ap (λ (p : Pool). nat_eq p.quota before.quota) a ∙ ap (λ (p : Pool). nat_eq (quota_of new n) p.quota) b

  -- a quota that differs is under its outermost pool
  pub differs_hit : after.quota ≢ before.quota → (R : ℕ) → differs_under old new R n ≡ nat_eq (outermost_of old n) R
  differs_hit other R =
      let differs : has_other_quota old new n ≡ true = ap not (sym quotas ∙ ne_eqb after.quota before.quota other) in
      ap (λ (differs : Bool). nat_eq (outermost_of old n) R && differs) differs ∙ and_true (nat_eq (outermost_of old n) R)

  -- one that is the same is under none
  pub differs_miss : after.quota ≡ before.quota → (R : ℕ) → differs_under old new R n ≡ false
  differs_miss same R =
      let differs : has_other_quota old new n ≡ false = ap not (sym quotas ∙ eq-eqb after.quota before.quota same) in
      and_right (nat_eq (outermost_of old n) R) (has_other_quota old new n) differs
