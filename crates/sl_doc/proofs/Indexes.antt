-- The index of a choice.
use Rattle.std.proofs.Common.{◌≡◌, ◌≤◌, Bool, ℕ, List, length, position, nat_lt, not, refl, ltb-false, arith, inl, inr}
use Rattle.std.specs.List.{position_or_len}
use Rattle.std.specs.Option.{unwrap_or}
use Rattle.std.proofs.lemmas.Bool.{cases_Bool}
use Rattle.std.proofs.lemmas.List.Sums.{prefix_len-le-length}
use Rattle.std.specs.Prelude.{Option, Some, None}
use Rattle.sl_types.specs.declared.kinds.Entry.{Entry}
use Rattle.sl_doc.specs.Reading.{is_choice, choice_index}

-- the first place that passes, or the length
pub first_or_len : {A : Type 0} (p : A → Bool) (xs : List A) → unwrap_or (position p xs) (length xs) ≡ position_or_len p xs
first_or_len p xs = elim (cases_Bool (nat_lt (position_or_len p xs) (length xs))) [
  | inl some ↦ rw some refl
  | inr none ↦
      let past = ltb-false (position_or_len p xs) (length xs) none in
      let low = prefix_len-le-length (λ x. not (p x)) xs in
      rw none (omega (arith, past, low))
]

-- is at most the length
pub index_low : (choices : List Entry) (place : ℕ) (prog : Option ℕ) → choice_index choices place prog ≤ length choices
index_low choices place None = omega arith
index_low choices place (Some prog) = prefix_len-le-length (λ x. not (is_choice place prog x)) choices
