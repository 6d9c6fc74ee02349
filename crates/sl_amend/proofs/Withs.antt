-- The lists of a draft that a change leaves, and what stands in them.
use Rattle.std.proofs.Common.{◌≡◌, ◌∙◌, ◌<◌, ◌||◌, ℕ, zero, suc, Bool, true, false, nat_eq, nat_lt, List, [], ◌∷◌, length, set, get_or, Option, refl, sym, ap, arith, inl, inr, get_or-set_same, get_or-set_other}
use Rattle.std.specs.Prelude.{remove}
use Rattle.std.specs.List.{list_any}
use Rattle.std.proofs.lemmas.Bool.{cases_Bool, or_parts, ltb-true, ltb-false}
use Rattle.sl_types.specs.declared.kinds.Entry.{Entry}
use Rattle.sl_types.specs.Rules.{has_prog_twice, names_prog}
use Rattle.sl_types.proofs.Lists.{none_at}
use Rattle.sl_amend.specs.Applied.{with_choice}
use Rattle.sl_amend.specs.Roll.{no_choice, scored_at}
use Rattle.sl_amend.proofs.OneChange.{IsWith, IsFree, beside, any_never}
use Rattle.sl_amend.proofs.OneTree.{differ, tie, two, ties}

swapped : (a b d : Bool) → (a || (b || d)) ≡ (b || (a || d))
swapped true true d = refl
swapped true false d = refl
swapped false true d = refl
swapped false false d = refl

all_beside : (e : Entry) (p : Entry → Bool) (choices : List Entry) → names_prog e.prog.0 choices ≡ false → beside e p choices ≡ list_any p choices
all_beside e p [] h = refl
all_beside e p (f ∷ fs) h =
    let parts = or_parts (nat_eq f.prog.0 e.prog.0) (names_prog e.prog.0 fs) h in
    let rest = all_beside e p fs parts.1 in
    rw (parts.0, rest) refl

any_with : (p : Entry → Bool) (e : Entry) (choices : List Entry) → list_any p (with_choice e choices) ≡ (p e || list_any p choices)
any_with p e [] = refl
any_with p e (f ∷ fs) = elim (cases_Bool (nat_lt e.place f.place)) [
  | inl h ↦ rw h refl
  | inr h ↦ rw (h, any_with p e fs) (swapped (p f) (p e) (list_any p fs))
]

-- a choice is added
pub with_one : (e : Entry) (choices : List Entry) → names_prog e.prog.0 choices ≡ false → IsWith e choices (with_choice e choices)
with_one e choices free = record { members = λ p. any_with p e choices ∙ ap (λ b. p e || b) (sym (all_beside e p choices free)) }

any_scored : (p : Entry → Bool) (choices : List Entry) (at score : ℕ) → at < length choices → has_prog_twice choices ≡ false
    → list_any p (scored_at choices at score) ≡ (p (record (get_or choices at no_choice) { score = score }) || beside (record (get_or choices at no_choice) { score = score }) p choices)
any_scored p [] at score lt once = absurd (omega (arith, lt))
any_scored p (x ∷ xs) zero score lt once =
    let parts = or_parts (names_prog x.prog.0 xs) (has_prog_twice xs) once in
    let same = Rattle.sl_codes.proofs.Lists.agree x.prog.0 x.prog.0 refl in
    let rest = all_beside (record x { score = score }) p xs parts.0 in
    rw (same, rest) refl
any_scored p (x ∷ xs) (suc at) score lt once =
    let parts = or_parts (names_prog x.prog.0 xs) (has_prog_twice xs) once in
    let inside : at < length xs = omega (arith, lt) in
    let other : nat_eq (get_or xs at no_choice).prog.0 x.prog.0 ≡ false = none_at (λ (e : Entry). nat_eq e.prog.0 x.prog.0) xs no_choice at parts.0 inside in
    let turned : nat_eq x.prog.0 (get_or xs at no_choice).prog.0 ≡ false = Rattle.sl_amend.proofs.OneTree.turned x.prog.0 (get_or xs at no_choice).prog.0 ∙ other in
    let rest = any_scored p xs at score inside parts.1 in
    let e : Entry = record (get_or xs at no_choice) { score = score } in
    rw (turned, rest) (swapped (p x) (p e) (beside e p xs))

-- a choice has another score
pub with_scored : (choices : List Entry) (at score : ℕ) → at < length choices → has_prog_twice choices ≡ false
    → IsWith (record (get_or choices at no_choice) { score = score }) choices (scored_at choices at score)
with_scored choices at score lt once = record { members = λ p. any_scored p choices at score lt once }

-- what stands in fewer choices stands in more
pub record IsWithin (new old : List Entry) : Type 0 where
  pub fewer : (p : Entry → Bool) → list_any p old ≡ false → list_any p new ≡ false

pub removed_within : (choices : List Entry) (at : ℕ) → IsWithin (remove choices at) choices
removed_within choices at = record { fewer = λ p. fewer p choices at }
  where
    fewer : (p : Entry → Bool) (xs : List Entry) (i : ℕ) → list_any p xs ≡ false → list_any p (remove xs i) ≡ false
    fewer p [] zero h = refl
    fewer p [] (suc i) h = refl
    fewer p (x ∷ xs) zero h = (or_parts (p x) (list_any p xs) h).1
    fewer p (x ∷ xs) (suc i) h =
        let parts = or_parts (p x) (list_any p xs) h in
        let rest = fewer p xs i parts.1 in
        rw (parts.0, rest) refl

pub nothing_within : (choices : List Entry) → IsWithin [] choices
nothing_within choices = record { fewer = λ p h. refl }

same_within : (choices : List Entry) → IsWithin choices choices
same_within choices = record { fewer = λ p h. h }

two_fewer : (trees : List (Option ℕ)) (new old : List Entry) → IsWithin new old → two trees old ≡ false → two trees new ≡ false
two_fewer trees new old within h = within.fewer (λ e. list_any (differ trees e) new)
    (any_never (λ e. list_any (differ trees e) new) old no_choice
    (λ k lt. within.fewer (differ trees (get_or old k no_choice)) (none_at (λ (e : Entry). list_any (differ trees e) old) old no_choice k h lt)))

ties_fewer : (trees : List (Option ℕ)) (new old news olds : List Entry) → IsWithin new old → IsWithin news olds → ties trees old olds ≡ false → ties trees new news ≡ false
ties_fewer trees new old news olds within also h = within.fewer (λ e. list_any (tie trees e) news)
    (any_never (λ e. list_any (tie trees e) news) old no_choice
    (λ k lt. also.fewer (tie trees (get_or old k no_choice)) (none_at (λ (e : Entry). list_any (tie trees e) olds) old no_choice k h lt)))

-- fewer choices are in no conflict where more are in none
pub free_fewer : (trees : List (Option ℕ)) (lists more : List (List Entry)) → ((b : ℕ) → IsWithin (get_or lists b []) (get_or more b [])) → IsFree trees more → IsFree trees lists
free_fewer trees lists more within free = record {
  single = λ b. two_fewer trees (get_or lists b []) (get_or more b []) (within b) (free.single b);
  apart = λ a b less. ties_fewer trees (get_or lists a []) (get_or more a []) (get_or lists b []) (get_or more b []) (within a) (within b) (free.apart a b less);
}

-- one list holds less
pub set_within : (lists : List (List Entry)) (a : ℕ) (choices : List Entry) → a < length lists → IsWithin choices (get_or lists a []) → (b : ℕ) → IsWithin (get_or (set lists a choices) b []) (get_or lists b [])
set_within lists a choices lt within b = elim (Rattle.std.proofs.lemmas.Bool.Decides.eqb_tells b a) [
  | inl e ↦
      let at = get_or-set_same lists a choices [] lt in
      record {
        fewer = λ p h.
            ap (λ (n : ℕ). list_any p (get_or (set lists a choices) n [])) e.1 ∙ ap (list_any p) at ∙ within.fewer p (sym (ap (λ (n : ℕ). list_any p (get_or lists n [])) e.1) ∙ h);
      }
  | inr e ↦
      let at = get_or-set_other lists a b choices [] e.1 in
      record { fewer = λ p h. ap (list_any p) at ∙ h }
]
