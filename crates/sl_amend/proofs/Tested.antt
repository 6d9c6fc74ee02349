-- Lists, tests that some element passes, and how many of a list pass.
use Rattle.std.proofs.Common.{◌≡◌, ℕ, zero, suc, ◌+◌, ◌<◌, ◌≤◌, Bool, true, false, ◌&&◌, not, List, [], ◌∷◌, length, get_or, filter, refl, sym, ap, ◌∙◌, subst, arith, inl, inr, true≢false, nat_le, Option, Some, None, HoldsAt}
use Rattle.std.proofs.lemmas.Bool.{cases_Bool, or_cases, or_left, or_right, and_parts, and_from, eq-eqb, eqb-true, leb-true, le-leb, not_from_false, not-true, false_from_ne_true}
use Rattle.std.proofs.lemmas.List.Folds.{list_any_at}
use Rattle.std.proofs.lemmas.List.FromFn.{get_or-range_with_len, length-range_with_len}
use Rattle.std.specs.List.{list_any, range_with_len}
use Rattle.sl_amend.specs.Amended.{Origins, is_origin}

-- tests that pass alike are the same
pub same_tests : (a b : Bool) → (a ≡ true → b ≡ true) → (b ≡ true → a ≡ true) → a ≡ b
same_tests true b to from = sym (to refl)
same_tests false b to from = sym (false_from_ne_true b (λ h. true≢false (sym (from h))))

-- what follows from each element that passes follows where some passes
pub any_gives : {A C : Type 0} (p : A → Bool) (xs : List A) → ((x : A) → p x ≡ true → C) → list_any p xs ≡ true → C
any_gives p [] gives h = absurd (true≢false (sym h))
any_gives p (x ∷ xs) gives h = elim (or_cases (p x) (list_any p xs) h) [
  | inl here ↦ gives x here
  | inr later ↦ any_gives p xs gives later
]

-- a test that passes more passes some where the other does
pub any_more : {A : Type 0} (p q : A → Bool) (xs : List A) → ((x : A) → p x ≡ true → q x ≡ true) → list_any p xs ≡ true → list_any q xs ≡ true
any_more p q [] more h = h
any_more p q (x ∷ xs) more h = elim (or_cases (p x) (list_any p xs) h) [
  | inl here ↦ or_left (q x) (list_any q xs) (more x here)
  | inr later ↦ or_right (q x) (list_any q xs) (any_more p q xs more later)
]

-- a test that passes more keeps no fewer
pub filter_up : {A : Type 0} (p q : A → Bool) (xs : List A) → ((x : A) → p x ≡ true → q x ≡ true) → length (filter p xs) ≤ length (filter q xs)
filter_up p q [] more = omega arith
filter_up p q (x ∷ xs) more =
    let rest = filter_up p q xs more in
    elim (cases_Bool (p x)) [
      | inl hit ↦ let also = more x hit in rw (hit, also) (omega (arith, rest))
      | inr miss ↦ elim (cases_Bool (q x)) [
        | inl hit ↦ rw (miss, hit) (omega (arith, rest))
        | inr never ↦ rw (miss, never) rest
      ]
    ]

-- and keeps more where some element passes it alone
pub filter_gain : {A : Type 0} (p q : A → Bool) (xs : List A) → ((x : A) → p x ≡ true → q x ≡ true) → list_any (λ x. q x && not (p x)) xs ≡ true
    → length (filter p xs) + 1 ≤ length (filter q xs)
filter_gain p q [] more some = absurd (true≢false (sym some))
filter_gain p q (x ∷ xs) more some =
    let rest = filter_up p q xs more in
    elim (or_cases (q x && not (p x)) (list_any (λ x. q x && not (p x)) xs) some) [
      | inl here ↦
          let parts = and_parts (q x) (not (p x)) here in
          let hit : q x ≡ true = parts.0 in
          let miss : p x ≡ false = not-true (p x) parts.1 in
          rw (miss, hit) (omega (arith, rest))
      | inr later ↦
          let gain = filter_gain p q xs more later in
          elim (cases_Bool (p x)) [
            | inl hit ↦ let also = more x hit in rw (hit, also) (omega (arith, gain))
            | inr miss ↦ elim (cases_Bool (q x)) [
              | inl hit ↦ rw (miss, hit) (omega (arith, gain))
              | inr never ↦ rw (miss, never) gain
            ]
          ]
    ]

-- the numbers from k on of the elements of a list that pass are as many as these
pub filter_numbers : {A : Type 0} (q : A → Bool) (d : A) (ys : List A) (f : ℕ → Bool) (k : ℕ) → ((j : ℕ) → j < length ys → f (k + j) ≡ q (get_or ys j d))
    → length (filter f (range_with_len k (length ys))) ≡ length (filter q ys)
filter_numbers q d [] f k same = refl
filter_numbers q d (y ∷ ys) f k same =
    let here : f k ≡ q y = ap f (omega arith) ∙ same 0 (omega arith) in
    let rest = filter_numbers q d ys f (k + 1) (λ j h. let at : f (k + 1 + j) ≡ f (k + suc j) = ap f (omega arith) in at ∙ same (suc j) (omega (arith, h))) in
    elim (cases_Bool (q y)) [
      | inl hit ↦ let also : f k ≡ true = here ∙ hit in rw (also, hit) (omega (arith, rest))
      | inr miss ↦ let also : f k ≡ false = here ∙ miss in rw (also, miss) rest
    ]

-- whether there is an origin, from k on
abbrev is_from : ℕ → Option ℕ → Bool
is_from k None = false
is_from k (Some a) = nat_le k a

from_more : (k : ℕ) (o : Option ℕ) → is_from (k + 1) o ≡ true → is_from k o ≡ true
from_more k None h = h
from_more k (Some a) h = let past = leb-true (k + 1) a h in le-leb k a (omega (arith, past))

from_here : (k : ℕ) (o : Option ℕ) → is_origin o k ≡ true → (is_from k o ≡ true) × (is_from (k + 1) o ≡ false)
from_here k None h = absurd (true≢false (sym h))
from_here k (Some a) h = let is = eqb-true a k h in (le-leb k a (omega (arith, is)), Rattle.std.proofs.lemmas.Bool.lt-leb (k + 1) a (omega (arith, is)))

-- where each element that passes p is the origin of a number that passes q, p passes at most as many
covered_from : {A : Type 0} (d : A) (was : Origins) (p : A → Bool) (q : ℕ → Bool) (bs : List ℕ) (xs : List A) (k : ℕ)
    → ((j : ℕ) → j < length xs → p (get_or xs j d) ≡ true → list_any (λ b. q b && is_origin (was b) (k + j)) bs ≡ true)
    → length (filter p xs) ≤ length (filter (λ b. q b && is_from k (was b)) bs)
covered_from d was p q bs [] k origin = omega arith
covered_from d was p q bs (x ∷ xs) k origin =
    let later : (b : ℕ) → (q b && is_from (k + 1) (was b)) ≡ true → (q b && is_from k (was b)) ≡ true =
    λ b h. let parts = and_parts (q b) (is_from (k + 1) (was b)) h in and_from (q b) (is_from k (was b)) parts.0 (from_more k (was b) parts.1) in
    let rest = covered_from d was p q bs xs (k + 1) (λ j h e. let at : k + suc j ≡ k + 1 + j = omega arith in
    subst (λ (n : ℕ). list_any (λ b. q b && is_origin (was b) n) bs ≡ true) at (origin (suc j) (omega (arith, h)) e)) in
    elim (cases_Bool (p x)) [
      | inl hit ↦
          let at : k + 0 ≡ k = omega arith in
          let some = subst (λ (n : ℕ). list_any (λ b. q b && is_origin (was b) n) bs ≡ true) at (origin 0 (omega arith) hit) in
          let gain = filter_gain (λ b. q b && is_from (k + 1) (was b)) (λ b. q b && is_from k (was b)) bs later
          (any_more (λ b. q b && is_origin (was b) k) (λ b. (q b && is_from k (was b)) && not (q b && is_from (k + 1) (was b))) bs
          (λ b h.
          let parts = and_parts (q b) (is_origin (was b) k) h in
          let pair = from_here k (was b) parts.1 in
          and_from (q b && is_from k (was b)) (not (q b && is_from (k + 1) (was b))) (and_from (q b) (is_from k (was b)) parts.0 pair.0)
          (not_from_false (q b && is_from (k + 1) (was b)) (Rattle.std.proofs.lemmas.Bool.and_right (q b) (is_from (k + 1) (was b)) pair.1))) some) in
          rw hit (omega (arith, rest, gain))
      | inr miss ↦
          let up = filter_up (λ b. q b && is_from (k + 1) (was b)) (λ b. q b && is_from k (was b)) bs later in
          rw miss (omega (arith, rest, up))
    ]

-- where each element that passes p is the origin of an element that passes q, p passes at most as many
pub covered : {A : Type 0} (d : A) (was : Origins) (p q : A → Bool) (xs ys : List A)
    → ((j : ℕ) → j < length xs → p (get_or xs j d) ≡ true → list_any (λ b. q (get_or ys b d) && is_origin (was b) j) (range_with_len 0 (length ys)) ≡ true)
    → length (filter p xs) ≤ length (filter q ys)
covered d was p q xs ys origin =
    let numbers = range_with_len 0 (length ys) in
    let of : ℕ → Bool = λ b. q (get_or ys b d) in
    let low = covered_from d was p of numbers xs 0 (λ j h e. let at : j ≡ 0 + j = omega arith in
    subst (λ (n : ℕ). list_any (λ b. of b && is_origin (was b) n) numbers ≡ true) at (origin j h e)) in
    let up = filter_up (λ b. of b && is_from 0 (was b)) of numbers (λ b h. (and_parts (of b) (is_from 0 (was b)) h).0) in
    let same = filter_numbers q d ys of 0 (λ j h. ap of (omega arith)) in
    omega (arith, low, up, same)

-- a test passes some number of a range where it passes one
pub any_number : (p : ℕ → Bool) (n k : ℕ) → k < n → p k ≡ true → list_any p (range_with_len 0 n) ≡ true
any_number p n k k_in hit =
    let long = length-range_with_len 0 n in
    let at : get_or (range_with_len 0 n) k 0 ≡ k = get_or-range_with_len 0 n k 0 k_in ∙ omega arith in
    list_any_at p (range_with_len 0 n) k 0 (omega (arith, long, k_in)) (ap p at ∙ hit)

any_from_gives : {C : Type 0} (p : ℕ → Bool) (a n : ℕ) → ((k : ℕ) → a ≤ k → k < a + n → p k ≡ true → C) → list_any p (range_with_len a n) ≡ true → C
any_from_gives p a zero gives h = absurd (true≢false (sym h))
any_from_gives p a (suc n) gives h = elim (or_cases (p a) (list_any p (range_with_len (a + 1) n)) h) [
  | inl here ↦ gives a (omega arith) (omega arith) here
  | inr later ↦ any_from_gives p (a + 1) n (λ k low high. gives k (omega (arith, low)) (omega (arith, high))) later
]

-- what follows from each number of a range that passes follows where some passes
pub any_number_gives : {C : Type 0} (p : ℕ → Bool) (n : ℕ) → ((k : ℕ) → k < n → p k ≡ true → C) → list_any p (range_with_len 0 n) ≡ true → C
any_number_gives p n gives h = any_from_gives p 0 n (λ k low high. gives k (omega (arith, high))) h

-- where a test passes some element there is a place where it does
pub any_place : {A : Type 0} (p : A → Bool) (xs : List A) → list_any p xs ≡ true → (k : ℕ) × (k < length xs) × HoldsAt (λ x. p x ≡ true) xs k
any_place p [] h = absurd (true≢false (sym h))
any_place p (x ∷ xs) h = elim (or_cases (p x) (list_any p xs) h) [
  | inl here ↦ (0, omega arith, λ d. here)
  | inr later ↦ let at = any_place p xs later in (suc at.0, (let a = at.1 in omega (arith, a)), at.2)
]

-- whether an origin is a, as a test and in words
pub origin_is : (o : Option ℕ) (a : ℕ) → is_origin o a ≡ true → o ≡ Some a
origin_is None a h = absurd (true≢false (sym h))
origin_is (Some b) a h = ap (λ (n : ℕ). Some n) (eqb-true b a h)

pub is_the_origin : (o : Option ℕ) (a : ℕ) → o ≡ Some a → is_origin o a ≡ true
is_the_origin o a e = ap (λ (o : Option ℕ). is_origin o a) e ∙ eq-eqb a a refl
