-- What rows do to a list of choices: which programmes stand there, and that some choice is left.
use Rattle.std.proofs.Common.{◌≡◌, ◌∙◌, ◌<◌, ◌+◌, ◌==◌, not, ℕ, zero, suc, Bool, true, false, nat_eq, nat_lt, List, [], ◌∷◌, length, None, refl, sym, ap, arith, inl, inr, true≢false, eqb-true}
use Rattle.std.proofs.lemmas.Bool.{cases_Bool, or_parts}
use Rattle.sl_types.specs.declared.kinds.Entry.{Entry}
use Rattle.sl_types.specs.Rules.{has_prog_twice, names_prog}
use Rattle.sl_codes.specs.declared.faults.Cause.TheVariants.{UnknownChoice, LastChoice}
use Rattle.sl_codes.proofs.FirstFault.{neither, unbroken}
use Rattle.sl_codes.proofs.Lists.{agree}
use Rattle.sl_choices.specs.Choices.{number_among}
use Rattle.sl_amend.specs.Applied.{with_choice, without_prog, with_score}
use Rattle.sl_amend.specs.Causes.{dropped_cause}

-- one more choice
pub some_with : (e : Entry) (xs : List Entry) → 0 < length (with_choice e xs)
some_with e [] = omega arith
some_with e (x ∷ xs) = elim (cases_Bool (nat_lt e.place x.place)) [
  | inl k ↦ rw k (omega arith)
  | inr k ↦ rw k (omega arith)
]

names-scored : (g h score : ℕ) (xs : List Entry) → names_prog g (with_score h score xs) ≡ names_prog g xs
names-scored g h score [] = refl
names-scored g h score (x ∷ xs) = elim (cases_Bool (x.prog.0 == h)) [
  | inl k ↦ rw (k, names-scored g h score xs) refl
  | inr k ↦ rw (k, names-scored g h score xs) refl
]

pub once-scored : (h score : ℕ) (xs : List Entry) → has_prog_twice (with_score h score xs) ≡ has_prog_twice xs
once-scored h score [] = refl
once-scored h score (x ∷ xs) = elim (cases_Bool (x.prog.0 == h)) [
  | inl k ↦ rw (k, names-scored x.prog.0 h score xs, once-scored h score xs) refl
  | inr k ↦ rw (k, names-scored x.prog.0 h score xs, once-scored h score xs) refl
]

pub length-scored : (h score : ℕ) (xs : List Entry) → length (with_score h score xs) ≡ length xs
length-scored h score [] = refl
length-scored h score (x ∷ xs) = ap suc (length-scored h score xs)

names-without : (g h : ℕ) (xs : List Entry) → names_prog g xs ≡ false → names_prog g (without_prog h xs) ≡ false
names-without g h [] none = refl
names-without g h (x ∷ xs) none =
    let parts = or_parts (nat_eq x.prog.0 g) (names_prog g xs) none in
    let rest = names-without g h xs parts.1 in
    elim (cases_Bool (x.prog.0 == h)) [
      | inl k ↦ rw k rest
      | inr k ↦ rw (k, parts.0, rest) refl
    ]

pub once-without : (h : ℕ) (xs : List Entry) → has_prog_twice xs ≡ false → has_prog_twice (without_prog h xs) ≡ false
once-without h [] once = refl
once-without h (x ∷ xs) once =
    let parts = or_parts (names_prog x.prog.0 xs) (has_prog_twice xs) once in
    let rest = once-without h xs parts.1 in
    let none = names-without x.prog.0 h xs parts.0 in
    elim (cases_Bool (x.prog.0 == h)) [
      | inl k ↦ rw k rest
      | inr k ↦ rw (k, none, rest) refl
    ]

all-without : (g : ℕ) (xs : List Entry) → names_prog g xs ≡ false → length (without_prog g xs) ≡ length xs
all-without g [] none = refl
all-without g (x ∷ xs) none =
    let parts = or_parts (nat_eq x.prog.0 g) (names_prog g xs) none in
    rw parts.0 (ap suc (all-without g xs parts.1))

-- one is taken away
one-without : (g : ℕ) (xs : List Entry) → has_prog_twice xs ≡ false → names_prog g xs ≡ true → length (without_prog g xs) + 1 ≡ length xs
one-without g [] once there = absurd (true≢false (sym there))
one-without g (x ∷ xs) once there =
    let parts = or_parts (names_prog x.prog.0 xs) (has_prog_twice xs) once in
    elim (cases_Bool (nat_eq x.prog.0 g)) [
      | inl k ↦
          let none : names_prog g xs ≡ false = ap (λ (n : ℕ). names_prog n xs) (sym (eqb-true x.prog.0 g k)) ∙ parts.0 in
          let rest = all-without g xs none in
          rw k (omega (arith, rest))
      | inr k ↦
          let rest = one-without g xs parts.1 (rw k at there) in
          rw k (omega (arith, rest))
    ]

not_not : (b : Bool) → not b ≡ false → b ≡ true
not_not true h = refl
not_not false h = sym h

not_one : (n : ℕ) → (n == 1) ≡ false → n ≡ 1 → ⊥
not_one n h is = absurd (true≢false (sym (agree n 1 is) ∙ h))

pub some_without : (progs : List (List ℕ)) (own : List Entry) (field : List ℕ) → has_prog_twice own ≡ false → dropped_cause progs own field ≡ None → 0 < length (without_prog (number_among progs field) own)
some_without progs own field once right =
    let parts = neither _ _ right in
    let there = not_not _ (unbroken (not (names_prog (number_among progs field) own)) UnknownChoice (neither _ _ parts.0).1) in
    let more = not_one (length own) (unbroken (length own == 1) LastChoice parts.1) in
    let less = one-without (number_among progs field) own once there in
    above (length (without_prog (number_among progs field) own)) (length own) less more
  where
    above : (a b : ℕ) → a + 1 ≡ b → (b ≡ 1 → ⊥) → 0 < a
    above zero b h more = absurd (more (sym h))
    above (suc a) b h more = omega arith
