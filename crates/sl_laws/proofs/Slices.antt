-- Limits that are a slice.
use Rattle.std.proofs.Common.{◌≡◌, ℕ, ◌<◌, List, length, get_or, set, nat_eq, sym, ap, ◌∙◌, inl, inr, eqb-true, get_or-set_other}
use Rattle.std.proofs.lemmas.Bool.{cases_Bool, eqb-false}
use Rattle.std.proofs.lemmas.Grind.{get_or-set_at}
use Rattle.sl_laws.specs.Limits.{Limits, with_limit}
use Rattle.sl_laws.proofs.Effective.{with_limit_else, with_limit_here}

-- a write to a slice of limits replaces one number
pub set_replaces : (xs : List ℕ) (P x : ℕ) → P < length xs → (Q : ℕ) → get_or (set xs P x) Q 0 ≡ with_limit (λ R. get_or xs R 0) P x Q
set_replaces xs P x h Q = elim (cases_Bool (nat_eq Q P)) [
  | inl same ↦ let is = eqb-true Q P same in get_or-set_at xs P Q x 0 is h ∙ sym (ap (λ R. with_limit (λ S. get_or xs S 0) P x R) is ∙ with_limit_here (λ S. get_or xs S 0) P x)
  | inr other ↦ get_or-set_other xs P Q x 0 (eqb-false Q P other) ∙ sym (with_limit_else (λ S. get_or xs S 0) P x Q other)
]

-- limits that are the same number by number are the same
pub same_limits : (t u : Limits) → ((Q : ℕ) → t Q ≡ u Q) → t ≡ u
same_limits t u same = λ i Q. same Q i

-- a number in its own place changes nothing
pub own_number : (t : Limits) (P : ℕ) → with_limit t P (t P) ≡ t
own_number t P = same_limits (with_limit t P (t P)) t (λ Q. elim (cases_Bool (nat_eq Q P)) [
  | inl same ↦ rw same (ap t (sym (eqb-true Q P same)))
  | inr other ↦ with_limit_else t P (t P) Q other
])
