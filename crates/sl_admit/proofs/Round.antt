-- One more in a pool and in each pool round it: none of these comes twice.
use Rattle.std.proofs.Common.{◌≡◌, ℕ, ◌+◌, ◌<◌, ◌≤◌, Bool, true, false, ◌||◌, List, [], ◌∷◌, length, set, nat_eq, slice_index, refl, ap, ◌∙◌, arith, inl, inr, eqb-true, get_or-set_other, sym}
use Rattle.std.specs.List.{list_any, IsDistinct, AllByRecursion}
use Rattle.std.proofs.lemmas.Bool.{cases_Bool, eqb-false}
use Rattle.std.proofs.lemmas.Grind.{get_or-set_at}
use Rattle.std.proofs.lemmas.Map.Keys.{IsDistinct-head}
use Rattle.sl_types.proofs.Walks.{flip}
use Rattle.sl_admit.specs.Counting.{one_if}

-- it is one at most
pub at_most_one : (b : Bool) → one_if b ≤ 1
at_most_one true = omega arith
at_most_one false = omega arith

-- a pool that differs from each of a list isn't in it
not_met : (P : ℕ) (Qs : List ℕ) → AllByRecursion (λ Q. nat_eq P Q ≡ false) Qs → list_any (λ Q. nat_eq Q P) Qs ≡ false
not_met P [] h = refl
not_met P (Q ∷ Qs) h = ap (λ b. b || list_any (λ Q. nat_eq Q P) Qs) (flip Q P ∙ h.0) ∙ not_met P Qs h.1

-- one pool counted, that isn't among those left
pub one_counted : (counts : List ℕ) (here : ℕ) (rest : List ℕ) (P : ℕ) → here < length counts → IsDistinct nat_eq (here ∷ rest)
    → slice_index (set counts here (slice_index counts here + 1)) P + one_if (list_any (λ Q. nat_eq Q P) rest) ≡ slice_index counts P + one_if (list_any (λ Q. nat_eq Q P) (here ∷ rest))
one_counted counts here rest P within once = elim (cases_Bool (nat_eq here P)) [
  | inl same ↦
      let e = eqb-true here P same in
      let value : slice_index (set counts here (slice_index counts here + 1)) P ≡ slice_index counts P + 1 = get_or-set_at counts here P (slice_index counts here + 1) 0 (sym e) within ∙ ap (λ Q. slice_index counts Q + 1) e in
      let others : list_any (λ Q. nat_eq Q P) rest ≡ false = ap (λ R. list_any (λ Q. nat_eq Q R) rest) (sym e) ∙ not_met here rest (IsDistinct-head nat_eq here rest once) in
      let before = ap one_if (ap (λ b. b || list_any (λ Q. nat_eq Q P) rest) same) in
      let after = ap one_if others in
      omega (arith, value, before, after)
  | inr other ↦
      let value : slice_index (set counts here (slice_index counts here + 1)) P ≡ slice_index counts P = get_or-set_other counts here P (slice_index counts here + 1) 0 (λ e. eqb-false here P other (sym e)) in
      let both = ap one_if (ap (λ b. b || list_any (λ Q. nat_eq Q P) rest) other) in
      omega (arith, value, both)
]
