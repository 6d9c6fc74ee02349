-- What two seats hold as one.
use Rattle.std.proofs.Common.{◌≡◌, ℕ, ◌+◌, ◌≤◌, Bool, min, max, List, [], ◌∷◌, length, sym, ap, ◌∙◌, subst, inl, inr, arith, length-set}
use Rattle.std.specs.Prelude.{slice_index}
use Rattle.std.proofs.lemmas.Bool.{cases_lt}
use Rattle.std.proofs.lemmas.List.Elements.{All-from_recursion, recursion_from_All}
use Rattle.std.specs.List.{AllByRecursion as ByRecursion}
use Rattle.sl_types.specs.declared.kinds.PoolId.{PoolId}
use Rattle.sl_types.specs.declared.kinds.TheConstants.{MAX_SCORE}
use Rattle.sl_types.specs.Market.{Market}
use Rattle.sl_laws.specs.Stable.{IsStable}
use Rattle.sl_core.specs.Dividing.{greater_of, either_of}
use Rattle.sl_floor.specs.declared.shares.TheConstants.{WHOLE_SHARE, FIRST_ALLOWANCE}
use Rattle.sl_floor.specs.Floor.{Sitting, both_view}
use Rattle.sl_floor.specs.Held.{AreLimits, IsSeated, Holds}
use Rattle.sl_floor.proofs.Changes.{greater_long, greater_at, either_long}

-- the greater of two lists of limits
greater_limits : (xs ys : List ℕ) → AreLimits xs → AreLimits ys → AreLimits (greater_of xs ys)
greater_limits xs ys low also = All-from_recursion (λ y. y ≤ MAX_SCORE + 1) (greater_of xs ys) (by xs ys (recursion_from_All (λ y. y ≤ MAX_SCORE + 1) xs low) (recursion_from_All (λ y. y ≤ MAX_SCORE + 1) ys also))
  where
    by : (xs ys : List ℕ) → ByRecursion (λ y. y ≤ MAX_SCORE + 1) xs → ByRecursion (λ y. y ≤ MAX_SCORE + 1) ys → ByRecursion (λ y. y ≤ MAX_SCORE + 1) (greater_of xs ys)
    by [] ys low also = tt
    by (x ∷ xs) [] low also = low
    by (x ∷ xs) (y ∷ ys) low also = (elim (cases_lt x y) [ inl less ↦ (let k = also.0 in omega (arith, k, less)) | inr more ↦ (let k = low.0 in omega (arith, k, more)) ], by xs ys low.1 also.1)

-- two seats of one instance as one
module _ (v w : Sitting) (one : IsSeated v) (other : IsSeated w) (same : w.market ≡ v.market) where
  lengths : length v.actor.known ≡ length w.actor.known
  lengths = one.sizes.known ∙ (sym (ap (λ (m : Market). length m.pools) same) ∙ sym other.sizes.known)

  at : (Q : ℕ) → slice_index (both_view v w).actor.known Q ≡ max (slice_index v.actor.known Q) (slice_index w.actor.known Q)
  at Q = greater_at v.actor.known w.actor.known Q lengths

  pub both_rises : ((Q : ℕ) → slice_index v.actor.known Q ≤ slice_index (both_view v w).actor.known Q) × ((Q : ℕ) → slice_index w.actor.known Q ≤ slice_index (both_view v w).actor.known Q)
  both_rises = (λ Q. let is = at Q in omega (arith, is), λ Q. let is = at Q in omega (arith, is))

  pub both_seated : IsSeated (both_view v w)
  both_seated = record {
    sizes = record {
      known = greater_long v.actor.known w.actor.known ∙ one.sizes.known;
      reads = one.sizes.reads;
      made = one.sizes.made;
      left = either_long v.actor.left w.actor.left ∙ one.sizes.left;
      owed = one.sizes.owed;
    };
    limits = greater_limits v.actor.known w.actor.known one.limits other.limits;
    low = λ l stable Q.
        let is = at Q in let low = one.low l stable Q in let also = other.low l (subst (λ (m : Market). IsStable m l) (sym same) stable) Q in
        elim (cases_lt (slice_index v.actor.known Q) (slice_index w.actor.known Q)) [ inl less ↦ omega (arith, is, also, less) | inr more ↦ omega (arith, is, low, more) ];
    share = omega arith;
    allowance = omega arith;
  }

pub both_holds : (v w : Sitting) (known other : List ℕ) (left others : List Bool) (share share' allowance allowance' : ℕ) (pool pool' : PoolId) (limit limit' : ℕ)
    → Holds v known left share allowance pool limit → Holds w other others share' allowance' pool' limit' → w.market ≡ v.market
    → Holds (both_view v w) (greater_of known other) (either_of left others) (min (share + share') WHOLE_SHARE) (min (allowance + allowance') FIRST_ALLOWANCE) pool limit
both_holds v w known other left others share share' allowance allowance' pool pool' limit limit' h k same = record {
  known_is = ap (λ (l : List ℕ). greater_of l w.actor.known) h.known_is ∙ ap (greater_of known) k.known_is;
  left_is = ap (λ (l : List Bool). either_of l w.actor.left) h.left_is ∙ ap (either_of left) k.left_is;
  share_is = ap (λ (n : ℕ). min (n + w.share) WHOLE_SHARE) h.share_is ∙ ap (λ (n : ℕ). min (share + n) WHOLE_SHARE) k.share_is;
  allowance_is = ap (λ (n : ℕ). min (n + w.allowance) FIRST_ALLOWANCE) h.allowance_is ∙ ap (λ (n : ℕ). min (allowance + n) FIRST_ALLOWANCE) k.allowance_is;
  in_hand = h.in_hand;
  seated = both_seated v w h.seated k.seated same;
  steps = length-set v.steps _ _ ∙ h.steps;
}
