-- The choices of an applicant, with one more at its place.
use Rattle.std.proofs.Common.{◌≡◌, ◌∙◌, ◌≤◌, ◌<◌, ◌+◌, not, ℕ, suc, Bool, true, false, nat_eq, nat_lt, List, [], ◌∷◌, length, refl, sym, ap, arith, inl, inr, true≢false}
use Rattle.std.specs.Prelude.{position, is_some, unwrap_or, sum_by}
use Rattle.std.specs.List.{insert, list_all, list_any, position_or_len}
use Rattle.std.proofs.lemmas.Bool.{cases_Bool, ltb-true, ltb-false, lt-ltb, and_parts, and_from, or_parts}
use Rattle.std.proofs.lemmas.List.Sums.{prefix_len-le-length, sum_by-cons}
use Rattle.sl_types.specs.declared.kinds.Entry.{Entry}
use Rattle.sl_types.specs.Rules.{rises_from, has_prog_twice, names_prog}
use Rattle.sl_types.proofs.Lists.{place_lt, none_first}
use Rattle.sl_amend.specs.Applied.{with_choice}
use Rattle.sl_amend.specs.Causes.{takes_place}

-- the first that passes, or the end
pub first_or_end : {A : Type 0} (p : A → Bool) (xs : List A) → unwrap_or (position p xs) (length xs) ≡ position_or_len p xs
first_or_end p xs = elim (cases_Bool (nat_lt (position_or_len p xs) (length xs))) [
  | inl e ↦ rw e refl
  | inr e ↦
      let past = ltb-false (position_or_len p xs) (length xs) e in
      let low = prefix_len-le-length (λ x. not (p x)) xs in
      rw e (omega (arith, past, low))
]

pub first_within : {A : Type 0} (p : A → Bool) (xs : List A) → unwrap_or (position p xs) (length xs) ≤ length xs
first_within p xs = let at = first_or_end p xs in let low = prefix_len-le-length (λ x. not (p x)) xs in omega (arith, at, low)

-- there is a first where one passes
pub found_is : {A : Type 0} (p : A → Bool) (xs : List A) → is_some (position p xs) ≡ list_any p xs
found_is p xs = elim (cases_Bool (list_any p xs)) [
  | inl e ↦ let less = lt-ltb (position_or_len p xs) (length xs) (place_lt p xs e) in rw (e, less) refl
  | inr e ↦ rw (e, none_first p xs e) refl
]

-- a choice that is put before the first of higher place
pub insert_is : (e : Entry) (xs : List Entry) → insert xs (position_or_len (λ f. nat_lt e.place f.place) xs) e ≡ with_choice e xs
insert_is e [] = refl
insert_is e (f ∷ fs) = elim (cases_Bool (nat_lt e.place f.place)) [
  | inl h ↦ rw h refl
  | inr h ↦
      let n : ℕ = position_or_len (λ (f : Entry). nat_lt e.place f.place) fs in
      let more : 1 + n ≡ suc n = omega arith in
      rw (h, more) (ap (λ (es : List Entry). f ∷ es) (insert_is e fs))
]

pub length-with_choice : (e : Entry) (xs : List Entry) → length (with_choice e xs) ≡ suc (length xs)
length-with_choice e [] = refl
length-with_choice e (f ∷ fs) = elim (cases_Bool (nat_lt e.place f.place)) [
  | inl h ↦ rw h refl
  | inr h ↦ rw h (ap suc (length-with_choice e fs))
]

pub sum_by-with_choice : (g : Entry → ℕ) (e : Entry) (xs : List Entry) → sum_by g (with_choice e xs) ≡ sum_by g xs + g e
sum_by-with_choice g e [] = omega (arith, sum_by-cons g e [])
sum_by-with_choice g e (f ∷ fs) = elim (cases_Bool (nat_lt e.place f.place)) [
  | inl h ↦
      let a = sum_by-cons g e (f ∷ fs) in
      rw h (omega (arith, a))
  | inr h ↦
      let a = sum_by-cons g f (with_choice e fs) in
      let b = sum_by-cons g f fs in
      let rest = sum_by-with_choice g e fs in
      rw h (omega (arith, a, b, rest))
]

pub all-with_choice : (p : Entry → Bool) (e : Entry) (xs : List Entry) → p e ≡ true → list_all p xs ≡ true → list_all p (with_choice e xs) ≡ true
all-with_choice p e [] here h = rw here refl
all-with_choice p e (f ∷ fs) here h =
    let parts = and_parts (p f) (list_all p fs) h in
    elim (cases_Bool (nat_lt e.place f.place)) [
      | inl k ↦ rw (k, here, parts.0, parts.1) refl
      | inr k ↦ let rest = all-with_choice p e fs here parts.1 in rw (k, parts.0, rest) refl
    ]

pub any-with_choice : (p : Entry → Bool) (e : Entry) (xs : List Entry) → p e ≡ false → list_any p xs ≡ false → list_any p (with_choice e xs) ≡ false
any-with_choice p e [] here h = rw here refl
any-with_choice p e (f ∷ fs) here h =
    let parts = or_parts (p f) (list_any p fs) h in
    elim (cases_Bool (nat_lt e.place f.place)) [
      | inl k ↦ rw (k, here, parts.0, parts.1) refl
      | inr k ↦ let rest = any-with_choice p e fs here parts.1 in rw (k, parts.0, rest) refl
    ]

not_same : (a b : ℕ) → nat_eq a b ≡ false → nat_lt b a ≡ false → a < b
not_same a b apart above = let low = ltb-false b a above in elim (Rattle.std.proofs.lemmas.Bool.Decides.eqb_tells a b) [
  | inl e ↦ absurd (true≢false (sym e.0 ∙ apart))
  | inr e ↦ omega (arith, low, e.1)
]

-- places still rise where no choice had the place
pub rises-with_choice : (low : ℕ) (e : Entry) (xs : List Entry) → low < e.place → rises_from low xs ≡ true → takes_place e.place xs ≡ false → rises_from low (with_choice e xs) ≡ true
rises-with_choice low e [] above h free = let here = lt-ltb low e.place above in rw here refl
rises-with_choice low e (f ∷ fs) above h free =
    let parts = and_parts (nat_lt low f.place) (rises_from f.place fs) h in
    let frees = or_parts (nat_eq f.place e.place) (takes_place e.place fs) free in
    elim (cases_Bool (nat_lt e.place f.place)) [
      | inl k ↦ let here = lt-ltb low e.place above in rw (k, here, k, parts.1) refl
      | inr k ↦
          let higher = not_same f.place e.place frees.0 k in
          let rest = rises-with_choice f.place e fs higher parts.1 frees.1 in
          rw (k, parts.0, rest) refl
    ]

apart : (g : ℕ) (e : Entry) (xs : List Entry) → nat_eq e.prog.0 g ≡ false → names_prog g xs ≡ false → names_prog g (with_choice e xs) ≡ false
apart g e xs other h = any-with_choice (λ f. nat_eq f.prog.0 g) e xs other h

swapped : (a b : ℕ) → nat_eq a b ≡ false → nat_eq b a ≡ false
swapped a b h = elim (Rattle.std.proofs.lemmas.Bool.Decides.eqb_tells b a) [
  | inl e ↦ absurd (true≢false (sym (Rattle.sl_codes.proofs.Lists.agree a b (sym e.1)) ∙ h))
  | inr e ↦ e.0
]

-- no programme stands twice where the new one stood nowhere
pub once-with_choice : (e : Entry) (xs : List Entry) → has_prog_twice xs ≡ false → names_prog e.prog.0 xs ≡ false → has_prog_twice (with_choice e xs) ≡ false
once-with_choice e [] once free = refl
once-with_choice e (f ∷ fs) once free =
    let parts = or_parts (names_prog f.prog.0 fs) (has_prog_twice fs) once in
    let frees = or_parts (nat_eq f.prog.0 e.prog.0) (names_prog e.prog.0 fs) free in
    elim (cases_Bool (nat_lt e.place f.place)) [
      | inl k ↦ rw (k, frees.0, frees.1, parts.0, parts.1) refl
      | inr k ↦
          let rest = once-with_choice e fs parts.1 frees.1 in
          let own = apart f.prog.0 e fs (swapped f.prog.0 e.prog.0 frees.0) parts.0 in
          rw (k, own, rest) refl
    ]
