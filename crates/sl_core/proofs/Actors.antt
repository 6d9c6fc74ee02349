-- The actors after one of them is replaced, and other lists.
use Rattle.std.proofs.Common.{◌≡◌, ◌≢◌, ℕ, zero, suc, ◌+◌, ◌<◌, ◌≤◌, Bool, true, false, true≢false, List, [], ◌∷◌, length, get_or, set, replicate, sym, refl, subst, inl, inr, arith, length-set, get_or-set_other, get_or-set_same}
use Rattle.std.specs.List.{list_any, range_with_len}
use Rattle.std.proofs.lemmas.Bool.{cases_eq, or_parts}
use Rattle.std.proofs.lemmas.Grind.{get_or-set_at}
use Rattle.sl_core.specs.State.{Actor, nobody}

abbrev pub EachOf : List Actor → (Actor → Type 0) → Type 0
EachOf xs F = (j : ℕ) → j < length xs → F (get_or xs j nobody)

abbrev pub SomeOf : List Actor → (Actor → Type 0) → Type 0
SomeOf xs F = (j : ℕ) × (j < length xs) × F (get_or xs j nobody)

pub each_set : (xs : List Actor) (i : ℕ) (b : Actor) (F G : Actor → Type 0) → ((a : Actor) → F a → G a) → G b → EachOf xs F → EachOf (set xs i b) G
each_set xs i b F G keep mine each j h =
    let same_length = length-set xs i b in
    elim (cases_eq j i) [
      | inl same ↦ subst G (sym (get_or-set_at xs i j b nobody same (omega (arith, same_length, h, same)))) mine
      | inr other ↦ subst G (sym (get_or-set_other xs i j b nobody other)) (keep (get_or xs j nobody) (each j (omega (arith, same_length, h))))
    ]

pub some_here : (xs : List Actor) (i : ℕ) (b : Actor) (G : Actor → Type 0) → i < length xs → G b → SomeOf (set xs i b) G
some_here xs i b G inside g = (i, omega (arith, length-set xs i b, inside), subst G (sym (get_or-set_same xs i b nobody inside)) g)

pub some_else : (xs : List Actor) (i j : ℕ) (b : Actor) (G : Actor → Type 0) → j ≢ i → j < length xs → G (get_or xs j nobody) → SomeOf (set xs i b) G
some_else xs i j b G other h g = (j, omega (arith, length-set xs i b, h), subst G (sym (get_or-set_other xs i j b nobody other)) g)

pub some_set : (xs : List Actor) (i : ℕ) (b : Actor) (F G : Actor → Type 0) → i < length xs → ((a : Actor) → F a → G a) → (F (get_or xs i nobody) → G b) → SomeOf xs F → SomeOf (set xs i b) G
some_set xs i b F G inside keep mine (j, h, f) = elim (cases_eq j i) [
  | inl same ↦ some_here xs i b G inside (mine (subst (λ (k : ℕ). F (get_or xs k nobody)) same f))
  | inr other ↦ some_else xs i j b G other h (keep (get_or xs j nobody) f)
]

-- a flag that is up stands in the list
pub up_within : (fs : List Bool) (k : ℕ) → get_or fs k false ≡ true → k < length fs
up_within [] k up = absurd (true≢false (sym up))
up_within (f ∷ fs) zero up = omega arith
up_within (f ∷ fs) (suc k) up = let r = up_within fs k up in omega (arith, r)

-- a number of a list that is short is 0
pub zero_past : (xs : List ℕ) (k : ℕ) → length xs ≤ k → get_or xs k 0 ≡ 0
zero_past [] k h = refl
zero_past (x ∷ xs) zero h = absurd (omega (arith, h))
zero_past (x ∷ xs) (suc k) h = zero_past xs k (omega (arith, h))

-- one value at every place
pub replicate_same : {A : Type 0} (n k : ℕ) (x : A) → get_or (replicate n x) k x ≡ x
replicate_same zero k x = refl
replicate_same (suc n) zero x = refl
replicate_same (suc n) (suc k) x = replicate_same n k x

pub replicate_within : {A : Type 0} (n k : ℕ) (x d : A) → k < n → get_or (replicate n x) k d ≡ x
replicate_within zero k x d h = absurd (omega (arith, h))
replicate_within (suc n) zero x d h = refl
replicate_within (suc n) (suc k) x d h = replicate_within n k x d (omega (arith, h))

-- where no number of a range passes
pub none_passes : (p : ℕ → Bool) (a n k : ℕ) → list_any p (range_with_len a n) ≡ false → a ≤ k → k < a + n → p k ≡ false
none_passes p a zero k none low high = absurd (omega (arith, low, high))
none_passes p a (suc n) k none low high =
    let both = or_parts (p a) (list_any p (range_with_len (a + 1) n)) none in
    elim (cases_eq k a) [
      | inl same ↦ subst (λ (j : ℕ). p j ≡ false) (sym same) both.0
      | inr other ↦ none_passes p (a + 1) n k both.1 (omega (arith, low, other)) (omega (arith, high))
    ]

-- a number written into a list of numbers keeps a bound
pub set_le : (xs : List ℕ) (k x : ℕ) (f : ℕ → ℕ) → ((j : ℕ) → get_or xs j 0 ≤ f j) → x ≤ f k → (j : ℕ) → get_or (set xs k x) j 0 ≤ f j
set_le [] k x f low high j = low j
set_le (y ∷ ys) zero x f low high zero = high
set_le (y ∷ ys) zero x f low high (suc j) = low (suc j)
set_le (y ∷ ys) (suc k) x f low high zero = low zero
set_le (y ∷ ys) (suc k) x f low high (suc j) = set_le ys k x (λ i. f (suc i)) (λ i. low (suc i)) high j

-- what holds of each number by its place still does after one is written
pub set_keeps : (xs : List ℕ) (k x : ℕ) (F : ℕ → ℕ → Type 0) → ((j : ℕ) → F j (get_or xs j 0)) → F k x → (j : ℕ) → F j (get_or (set xs k x) j 0)
set_keeps [] k x F each here j = each j
set_keeps (y ∷ ys) zero x F each here zero = here
set_keeps (y ∷ ys) zero x F each here (suc j) = each (suc j)
set_keeps (y ∷ ys) (suc k) x F each here zero = each zero
set_keeps (y ∷ ys) (suc k) x F each here (suc j) = set_keeps ys k x (λ i. F (suc i)) (λ i. each (suc i)) here j
