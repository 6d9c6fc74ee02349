-- One counter written.
use Rattle.std.proofs.Common.{◌≡◌, ℕ, ◌+◌, ◌<◌, true, false, List, length, get_or, set, nat_eq, sym, ap, ◌∙◌, arith, inl, inr, eqb-true, eq-eqb, ne_eqb, get_or-set_other}
use Rattle.std.proofs.lemmas.Bool.{cases_Bool, cases_eq, eqb-false}
use Rattle.std.proofs.lemmas.Grind.{get_or-set_at}
use Rattle.sl_laws.proofs.Lists.{bit}

-- one counter raised by one
pub set_more : (ks : List ℕ) (R n : ℕ) → R < length ks → n ≡ get_or ks R 0 + 1 → (C : ℕ) → get_or (set ks R n) C 0 ≡ get_or ks C 0 + bit (nat_eq R C)
set_more ks R n R_in is C = elim (cases_eq R C) [
  | inl same ↦
      let here = get_or-set_at ks R C n 0 (sym same) R_in in
      let was : get_or ks R 0 ≡ get_or ks C 0 = ap (λ (D : ℕ). get_or ks D 0) same in
      let one : bit (nat_eq R C) ≡ 1 = ap bit (eq-eqb R C same) in
      omega (arith, here, was, one, is)
  | inr other ↦
      let there = get_or-set_other ks R C n 0 (λ (e : C ≡ R). other (sym e)) in
      let none : bit (nat_eq R C) ≡ 0 = ap bit (ne_eqb R C other) in
      omega (arith, there, none)
]

-- one counter set to 0
pub set_zero : (ks : List ℕ) (R C : ℕ) → R < length ks → nat_eq R C ≡ true → get_or (set ks R 0) C 0 ≡ 0
set_zero ks R C R_in hit = get_or-set_at ks R C 0 0 (sym (eqb-true R C hit)) R_in

pub set_else : (ks : List ℕ) (R C n : ℕ) → nat_eq R C ≡ false → get_or (set ks R n) C 0 ≡ get_or ks C 0
set_else ks R C n miss = get_or-set_other ks R C n 0 (λ (e : C ≡ R). eqb-false R C miss (sym e))

pub keeps_zero : (ks : List ℕ) (R C : ℕ) → R < length ks → get_or ks C 0 ≡ 0 → get_or (set ks R 0) C 0 ≡ 0
keeps_zero ks R C R_in zero = elim (cases_Bool (nat_eq R C)) [
  | inl hit ↦ set_zero ks R C R_in hit
  | inr miss ↦ set_else ks R C 0 miss ∙ zero
]
