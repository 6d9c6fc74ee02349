-- A pass over the rows of a file, one after another.
use Rattle.std.proofs.Common.{◌≡◌, ◌∙◌, ◌≤◌, ◌+◌, ◌-◌, ◌++◌, ℕ, Bool, true, false, cond, nat_eq, List, [], ◌∷◌, length, get_or, position, Some, None, refl, ap, arith, inl, inr, length-append}
use Rattle.std.specs.Option.{option_or}
use Rattle.std.specs.List.{list_any, position_or_len}
use Rattle.std.proofs.lemmas.Bool.{cases_Bool, lt-ltb}
use Rattle.std.proofs.lemmas.List.{get_or_append_left, get_or_past, get_or-append_right}
use Rattle.std.proofs.lemmas.List.Folds.{position_or_len_push, list_any-append}
use Rattle.sl_types.proofs.Lists.{place_lt, none_first, none_fails, first_found}
use Rattle.sl_codes.specs.Records.{Record, field_of}
use Rattle.sl_codes.proofs.Lists.{position_push, differ}
use Rattle.sl_amend.specs.Causes.{kind_field, subject_field, programme_field}
use Rattle.sl_amend.specs.DraftMarket.{DraftMarket}
use Rattle.sl_amend.specs.Files.{names_differing, names_tied}

-- past its last field a record has none
pub field_past : (row : Record) (i : ℕ) → length row ≤ i → field_of row i ≡ []
field_past row i past = get_or_past row i [] past

-- what a row names depends on three of its fields
module _ (draft : DraftMarket) (row other : Record) (kind : kind_field row ≡ kind_field other) (subject : subject_field row ≡ subject_field other) (programme : programme_field row ≡ programme_field other) where
  pub differing_alike : names_differing draft row ≡ names_differing draft other
  differing_alike = rw (kind, subject, programme) refl

  pub tied_alike : names_tied draft row ≡ names_tied draft other
  tied_alike = rw (kind, subject, programme) refl

-- the first of one more
pub position_more : {A : Type 0} (p : A → Bool) (xs : List A) (y : A) → position p (xs ++ y ∷ []) ≡ option_or (position p xs) (cond (p y) (Some (length xs)) None)
position_more p xs y = elim (cases_Bool (list_any p xs)) [
  | inl e ↦
      let less = place_lt p xs e in
      let i : ℕ = position_or_len p xs in
      let longer : length (xs ++ y ∷ []) ≡ length xs + 1 = length-append xs (y ∷ []) in
      let apart : nat_eq i (length xs) ≡ false = differ i (length xs) (λ same. absurd (omega (arith, same, less))) in
      let here = lt-ltb i (length xs) less in
      let after = lt-ltb i (length xs + 1) (omega (arith, less)) in
      let at : position_or_len p (xs ++ y ∷ []) ≡ i = position_or_len_push p xs y ∙ rw apart refl in
      rw (at, longer, here, after) refl
  | inr e ↦
      let none = none_first p xs e in
      elim (cases_Bool (p y)) [
        | inl k ↦ (let found = position_push p xs y e k in rw (none, k) found)
        | inr k ↦
            (let never : list_any p (xs ++ y ∷ []) ≡ false = list_any-append p xs (y ∷ []) ∙ rw (e, k) refl in
            rw (none, k) (none_first p (xs ++ y ∷ []) never))
      ]
]

-- the first that passes, after none that does
pub first_after_none : {A : Type 0} (p : A → Bool) (xs : List A) (y : A) (ys : List A) → position p xs ≡ None → p y ≡ true → position p (xs ++ y ∷ ys) ≡ Some (length xs)
first_after_none p xs y ys none here =
    let longer = length-append xs (y ∷ ys) in
    first_found p (xs ++ y ∷ ys) (length xs) y (omega (arith, longer))
    (λ k lt. ap p (get_or_append_left xs (y ∷ ys) y k lt) ∙ none_fails p xs none k y lt)
    (let zero_at : length xs ≤ length xs = omega arith in
    let at = get_or-append_right xs (y ∷ ys) (length xs) (length xs) y refl zero_at in
    let none_left : length xs - length xs ≡ 0 = omega arith in
    let first : get_or (y ∷ ys) (length xs - length xs) y ≡ y = ap (λ i. get_or (y ∷ ys) i y) none_left in
    ap p (at ∙ first) ∙ here)
