-- Tests that fail.
use Rattle.std.proofs.Common.{◌≡◌, ◌≢◌, ◌<◌, ◌≤◌, ◌&&◌, ℕ, Bool, true, false, nat_eq, nat_lt, nat_le, refl, arith, inl, inr, eqb-true, leb-true, ltb-true}
use Rattle.std.proofs.lemmas.Bool.{cases_Bool}

pub not_below : (a b : ℕ) → b ≤ a → nat_lt a b ≡ false
not_below a b le = elim (cases_Bool (nat_lt a b)) [
  | inl e ↦ let lt = ltb-true a b e in absurd (omega (arith, lt, le))
  | inr e ↦ e
]

pub not_up_to : (a b : ℕ) → b < a → nat_le a b ≡ false
not_up_to a b lt = elim (cases_Bool (nat_le a b)) [
  | inl e ↦ let le = leb-true a b e in absurd (omega (arith, lt, le))
  | inr e ↦ e
]

pub not_equal : (a b : ℕ) → a ≢ b → nat_eq a b ≡ false
not_equal a b differ = elim (cases_Bool (nat_eq a b)) [
  | inl e ↦ absurd (differ (eqb-true a b e))
  | inr e ↦ e
]

pub and_false : (b : Bool) → (b && false) ≡ false
and_false true = refl
and_false false = refl
