-- The choice of a programme, by its index and by its programme.
use Rattle.std.proofs.Common.{◌≡◌, ◌∙◌, ◌+◌, ℕ, suc, Bool, true, false, nat_eq, nat_lt, List, [], ◌∷◌, length, position, cond, Some, None, refl, sym, ap, arith, inl, inr, true≢false, eqb-true}
use Rattle.std.specs.Prelude.{remove}
use Rattle.std.specs.List.{list_any, position_or_len}
use Rattle.std.proofs.lemmas.Bool.{cases_Bool, or_parts}
use Rattle.sl_types.specs.declared.kinds.Entry.{Entry}
use Rattle.sl_types.specs.Rules.{has_prog_twice, names_prog}
use Rattle.sl_types.proofs.Lists.{none_first}
use Rattle.sl_amend.specs.Applied.{without_prog, with_score}
use Rattle.sl_amend.specs.Roll.{scored_at}

names : ℕ → Entry → Bool
names g e = nat_eq e.prog.0 g

-- the first that passes is where the position says
some_at : {A : Type 0} (p : A → Bool) (xs : List A) (at : ℕ) → position p xs ≡ Some at → position_or_len p xs ≡ at
some_at p xs at h = elim (cases_Bool (nat_lt (position_or_len p xs) (length xs))) [
  | inl e ↦ let is : Some (position_or_len p xs) ≡ Some at = sym (ap (λ b. cond b (Some (position_or_len p xs)) None) e) ∙ h in cc is
  | inr e ↦ let is : None ≡ Some at = sym (ap (λ b. cond b (Some (position_or_len p xs)) None) e) ∙ h in cc is
]

some_any : {A : Type 0} (p : A → Bool) (xs : List A) (at : ℕ) → position p xs ≡ Some at → list_any p xs ≡ true
some_any p xs at h = elim (cases_Bool (list_any p xs)) [
  | inl e ↦ e
  | inr e ↦ let is : None ≡ Some at = sym (none_first p xs e) ∙ h in cc is
]

none_dropped : (g : ℕ) (xs : List Entry) → names_prog g xs ≡ false → without_prog g xs ≡ xs
none_dropped g [] h = refl
none_dropped g (x ∷ xs) h =
    let parts = or_parts (nat_eq x.prog.0 g) (names_prog g xs) h in
    rw parts.0 (ap (λ (es : List Entry). x ∷ es) (none_dropped g xs parts.1))

none_scored : (g score : ℕ) (xs : List Entry) → names_prog g xs ≡ false → with_score g score xs ≡ xs
none_scored g score [] h = refl
none_scored g score (x ∷ xs) h =
    let parts = or_parts (nat_eq x.prog.0 g) (names_prog g xs) h in
    rw parts.0 (ap (λ (es : List Entry). x ∷ es) (none_scored g score xs parts.1))

removed_first : (g : ℕ) (xs : List Entry) → has_prog_twice xs ≡ false → names_prog g xs ≡ true → remove xs (position_or_len (λ e. nat_eq e.prog.0 g) xs) ≡ without_prog g xs
removed_first g [] once h = absurd (true≢false (sym h))
removed_first g (x ∷ xs) once h =
    let parts = or_parts (names_prog x.prog.0 xs) (has_prog_twice xs) once in
    elim (cases_Bool (nat_eq x.prog.0 g)) [
      | inl e ↦
          let own : names_prog g xs ≡ false = ap (λ (n : ℕ). names_prog n xs) (sym (eqb-true x.prog.0 g e)) ∙ parts.0 in
          rw e (sym (none_dropped g xs own))
      | inr e ↦
          let n : ℕ = position_or_len (λ (f : Entry). nat_eq f.prog.0 g) xs in
          let more : 1 + n ≡ suc n = omega arith in
          let later : names_prog g xs ≡ true = rw e at h in
          rw (e, more) (ap (λ (es : List Entry). x ∷ es) (removed_first g xs parts.1 later))
    ]

scored_first : (g score : ℕ) (xs : List Entry) → has_prog_twice xs ≡ false → names_prog g xs ≡ true → scored_at xs (position_or_len (λ e. nat_eq e.prog.0 g) xs) score ≡ with_score g score xs
scored_first g score [] once h = absurd (true≢false (sym h))
scored_first g score (x ∷ xs) once h =
    let parts = or_parts (names_prog x.prog.0 xs) (has_prog_twice xs) once in
    elim (cases_Bool (nat_eq x.prog.0 g)) [
      | inl e ↦
          let own : names_prog g xs ≡ false = ap (λ (n : ℕ). names_prog n xs) (sym (eqb-true x.prog.0 g e)) ∙ parts.0 in
          rw e (ap (λ (es : List Entry). record x { score = score } ∷ es) (sym (none_scored g score xs own)))
      | inr e ↦
          let n : ℕ = position_or_len (λ (f : Entry). nat_eq f.prog.0 g) xs in
          let more : 1 + n ≡ suc n = omega arith in
          let later : names_prog g xs ≡ true = rw e at h in
          rw (e, more) (ap (λ (es : List Entry). x ∷ es) (scored_first g score xs parts.1 later))
    ]

-- without the choice at the index of a programme, the choices are those without the programme
pub removed_is : (g : ℕ) (xs : List Entry) (at : ℕ) → has_prog_twice xs ≡ false → position (λ e. nat_eq e.prog.0 g) xs ≡ Some at → remove xs at ≡ without_prog g xs
removed_is g xs at once h =
    ap (λ i. remove xs i) (sym (some_at (λ (e : Entry). nat_eq e.prog.0 g) xs at h)) ∙ removed_first g xs once (some_any (λ (e : Entry). nat_eq e.prog.0 g) xs at h)

-- with another score at that index, that of the programme has it
pub scored_is : (g score : ℕ) (xs : List Entry) (at : ℕ) → has_prog_twice xs ≡ false → position (λ e. nat_eq e.prog.0 g) xs ≡ Some at → scored_at xs at score ≡ with_score g score xs
scored_is g score xs at once h =
    ap (λ i. scored_at xs i score) (sym (some_at (λ (e : Entry). nat_eq e.prog.0 g) xs at h)) ∙ scored_first g score xs once (some_any (λ (e : Entry). nat_eq e.prog.0 g) xs at h)
