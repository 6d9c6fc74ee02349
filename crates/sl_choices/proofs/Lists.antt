-- Laws on lists that end in one more element, and on tests of numbers.
use Rattle.std.proofs.Common.{◌≡◌, ◌<◌, ◌+◌, ◌++◌, ◌⊎◌, ℕ, zero, suc, Bool, true, false, List, [], ◌∷◌, length, get_or, refl, sym, ap, arith, inl, inr, true≢false}
use Rattle.std.specs.List.{list_any}
use Rattle.std.proofs.lemmas.Bool.{cases_Bool}

-- the elements before the last one stay
pub get_push : {A : Type 0} (xs : List A) (x d : A) (k : ℕ) → k < length xs → get_or (xs ++ x ∷ []) k d ≡ get_or xs k d
get_push [] x d k h = absurd (omega (arith, h))
get_push (y ∷ ys) x d zero h = refl
get_push (y ∷ ys) x d (suc k) h = get_push ys x d k (omega (arith, h))

pub get_last : {A : Type 0} (xs : List A) (x d : A) (k : ℕ) → k ≡ length xs → get_or (xs ++ x ∷ []) k d ≡ x
get_last [] x d zero h = refl
get_last [] x d (suc k) h = absurd (omega (arith, h))
get_last (y ∷ ys) x d zero h = absurd (omega (arith, h))
get_last (y ∷ ys) x d (suc k) h = get_last ys x d k (omega (arith, h))

-- a place is before the last, or the last
pub before_or_last : (k n : ℕ) → k < n + 1 → (k < n) ⊎ (k ≡ n)
before_or_last zero zero h = inr refl
before_or_last zero (suc n) h = inl (omega arith)
before_or_last (suc k) zero h = absurd (omega (arith, h))
before_or_last (suc k) (suc n) h = elim (before_or_last k n (omega (arith, h))) [
  | inl l ↦ inl (omega (arith, l))
  | inr e ↦ inr (ap suc e)
]

-- where an element passes there is a first
pub place_found : {A : Type 0} (p : A → Bool) (xs : List A) (d : A) → list_any p xs ≡ true
    → (i : ℕ) × (i < length xs) × ((k : ℕ) → k < i → p (get_or xs k d) ≡ false) × (p (get_or xs i d) ≡ true)
place_found p [] d h = absurd (true≢false (sym h))
place_found p (x ∷ xs) d h = elim (cases_Bool (p x)) [
  | inl e ↦ (zero, omega arith, λ k lt. absurd (omega (arith, lt)), e)
  | inr e ↦ later p x xs d e (place_found p xs d (rw e at h))
]
  where
    below : {A : Type 0} (p : A → Bool) (x : A) (xs : List A) (d : A) (i : ℕ) → p x ≡ false → ((k : ℕ) → k < i → p (get_or xs k d) ≡ false) → (k : ℕ) → k < suc i → p (get_or (x ∷ xs) k d) ≡ false
    below p x xs d i e before zero lt = e
    below p x xs d i e before (suc k) lt = before k (omega (arith, lt))

    later : {A : Type 0} (p : A → Bool) (x : A) (xs : List A) (d : A) → p x ≡ false → (i : ℕ) × (i < length xs) × ((k : ℕ) → k < i → p (get_or xs k d) ≡ false) × (p (get_or xs i d) ≡ true)
        → (i : ℕ) × (i < length (x ∷ xs)) × ((k : ℕ) → k < i → p (get_or (x ∷ xs) k d) ≡ false) × (p (get_or (x ∷ xs) i d) ≡ true)
    later p x xs d e found = (suc found.0, omega (arith, found.1), below p x xs d found.0 e found.2, found.3)
