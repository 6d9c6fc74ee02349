-- Elements of a list at their places.
use Rattle.std.proofs.Common.{◌≡◌, ℕ, zero, suc, List, [], ◌∷◌, take, All, Some, refl, sym, subst, inl, inr, arith}
use Rattle.std.specs.Prelude.{◌⊎◌, Any, slice_get}
use Rattle.std.proofs.lemmas.List.Elements.{All-nil, All-cons, All-head, All-tail}

module _ {X : Type 0} (P Q : X → Type 0) where
  any_here : (x : X) (xs : List X) → P x → Any P (x ∷ xs)
  any_here x xs p = (zero, x, omega arith, refl, p)

  any_there : (x : X) (xs : List X) → Any P xs → Any P (x ∷ xs)
  any_there x xs (k, y, lt, is, p) = (suc k, y, omega (arith, lt), is, p)

  -- what holds at a place holds of some
  pub any_at : (xs : List X) (k : ℕ) (x : X) → slice_get xs k ≡ Some x → P x → Any P xs
  any_at [] k x at p = cc at
  any_at (y ∷ xs) zero x at p = let e : Some y ≡ Some x = at in let same : y ≡ x = cc in any_here y xs (subst P (sym same) p)
  any_at (y ∷ xs) (suc k) x at p = any_there y xs (any_at xs k x at p)

  -- what holds of all holds at each place
  pub all_at : (xs : List X) (k : ℕ) (x : X) → slice_get xs k ≡ Some x → All P xs → P x
  all_at [] k x at h = cc at
  all_at (y ∷ xs) zero x at h = let e : Some y ≡ Some x = at in let same : y ≡ x = cc in subst P same (All-head P y xs h)
  all_at (y ∷ xs) (suc k) x at h = all_at xs k x at (All-tail P y xs h)

  -- P holds at one place, and Q before it; at another Q holds before it, and not there: P holds there or before
  pub up_to_stop : (xs : List X) (k j : ℕ) (x y : X) → slice_get xs k ≡ Some x → slice_get xs j ≡ Some y → P x → All Q (take k xs)
      → (All Q (take j xs) → Q y → ⊥) → Any P (take j xs) ⊎ P y
  up_to_stop [] k j x y at at' p held unless = cc at
  up_to_stop (z ∷ xs) zero zero x y at at' p held unless =
      let e : Some z ≡ Some x = at in let e' : Some z ≡ Some y = at' in let same : x ≡ y = cc in inr (subst P same p)
  up_to_stop (z ∷ xs) zero (suc j) x y at at' p held unless =
      let e : Some z ≡ Some x = at in let same : x ≡ z = cc in inl (any_here z (take j xs) (subst P same p))
  up_to_stop (z ∷ xs) (suc k) zero x y at at' p held unless =
      let e : Some z ≡ Some y = at' in let same : z ≡ y = cc in absurd (unless (All-nil Q) (subst Q same (All-head Q z (take k xs) held)))
  up_to_stop (z ∷ xs) (suc k) (suc j) x y at at' p held unless =
      let here = All-head Q z (take k xs) held in
      elim (up_to_stop xs k j x y at at' p (All-tail Q z (take k xs) held) (λ before it. unless (All-cons Q z (take j xs) here before) it)) [
        | inl some ↦ inl (any_there z (take j xs) some)
        | inr it ↦ inr it
      ]
