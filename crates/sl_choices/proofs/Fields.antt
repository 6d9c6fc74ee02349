-- What is right with the fields of a record.
use Rattle.std.proofs.Common.{◌≡◌, ◌∙◌, ◌<◌, arith, refl, ℕ, Bool, true, false, ◌&&◌, cond, List, length, nat_le, Option, Some, None, inl, inr}
use Rattle.std.specs.Prelude.{unwrap_or, option_and_then}
use Rattle.std.specs.Option.{option_or}
use Rattle.std.proofs.lemmas.Bool.{cases_Bool, leb-true}
use Rattle.sl_types.specs.declared.kinds.TheConstants.{MAX_LIST, MAX_PLACE, MAX_SCORE}
use Rattle.sl_codes.specs.declared.faults.Cause.{Cause}
use Rattle.sl_codes.specs.declared.faults.RowError.{RowError}
use Rattle.sl_codes.specs.Codes.{has_code, number_of}
use Rattle.sl_codes.specs.Fields.{number_of_field, number_within, number_in}
use Rattle.sl_codes.specs.Faults.{number_cause, IsWrong}
use Rattle.sl_codes.specs.Records.{Record, field_of}
use Rattle.sl_choices.specs.declared.choices.ChoiceRow.{ChoiceRow}
use Rattle.sl_choices.specs.Choices.{number_among, list_cause, place_cause, prog_cause}
use Rattle.sl_choices.specs.Rows.{takes_place, takes_prog, own_cause}

-- a number that is in its range is the number of the field
pub number_in-within : (low high n : ℕ) (field : List ℕ) → number_within low high field ≡ Some n → number_in field ≡ n
number_in-within low high n field h = at low high n (number_of_field field) h
  where
    tested : (b : Bool) (m n : ℕ) → cond b (Some m) None ≡ Some n → m ≡ n
    tested true m n h = cc h
    tested false m n h = cc h

    at : (low high n : ℕ) (o : Option ℕ) → option_and_then (λ m. cond (nat_le low m && nat_le m high) (Some m) None) o ≡ Some n → unwrap_or o 0 ≡ n
    at low high n None h = cc h
    at low high n (Some m) h = tested (nat_le low m && nat_le m high) m n h

pub place_right : (n : ℕ) (field : List ℕ) (own : List ChoiceRow) → number_within 1 MAX_PLACE field ≡ Some n → number_cause 1 MAX_PLACE field ≡ None → takes_place n own ≡ false
    → place_cause (takes_place (number_in field) own) field ≡ None
place_right n field own number right free = let is = number_in-within 1 MAX_PLACE n field number in rw (is, right, free) refl

pub prog_right : (n : ℕ) (progs : List (List ℕ)) (field : List ℕ) (own : List ChoiceRow) → Some n ≡ number_of progs field → true ≡ has_code progs field → takes_prog n own ≡ false
    → prog_cause progs (takes_prog (number_among progs field) own) field ≡ None
prog_right n progs field own number known free = rw (← number, ← known, free) refl

-- the causes of a record, one after another
pub later_cause : {A : Type 0} (a b : Option A) → a ≡ None → option_or a b ≡ b
later_cause a b none = rw none refl

wrong_later : (a b : Option Cause) (e : RowError) → a ≡ None → IsWrong b e → IsWrong (option_or a b) e
wrong_later a b e none h = rw none h

wrong_first : (a b : Option Cause) (e : RowError) → IsWrong a e → IsWrong (option_or a b) e
wrong_first a b (RowError.Bad found) h = rw h refl
wrong_first a b RowError.OutOfMemory h = tt

-- a list that isn't full
short_list : (n : ℕ) → n < MAX_LIST → list_cause n ≡ None
short_list n short = let no = not_above MAX_LIST n short in rw no refl
  where
    not_above : (m n : ℕ) → n < m → nat_le m n ≡ false
    not_above m n h = elim (cases_Bool (nat_le m n)) [
      | inl e ↦ let le = leb-true m n e in absurd (omega (arith, h, le))
      | inr e ↦ e
    ]

pub own_prog : (progs : List (List ℕ)) (own : List ChoiceRow) (row : Record) (e : RowError) → length own < MAX_LIST
    → place_cause (takes_place (number_in (field_of row 1)) own) (field_of row 1) ≡ None
    → IsWrong (prog_cause progs (takes_prog (number_among progs (field_of row 2)) own) (field_of row 2)) e → IsWrong (own_cause progs own row) e
own_prog progs own row e short place prog =
    wrong_later (list_cause (length own)) _ e (short_list (length own) short)
    (wrong_later (place_cause (takes_place (number_in (field_of row 1)) own) (field_of row 1)) _ e place
    (wrong_first (prog_cause progs (takes_prog (number_among progs (field_of row 2)) own) (field_of row 2)) _ e prog))

pub own_score : (progs : List (List ℕ)) (own : List ChoiceRow) (row : Record) (cause : Option Cause) → length own < MAX_LIST
    → place_cause (takes_place (number_in (field_of row 1)) own) (field_of row 1) ≡ None
    → prog_cause progs (takes_prog (number_among progs (field_of row 2)) own) (field_of row 2) ≡ None
    → number_cause 0 MAX_SCORE (field_of row 3) ≡ cause → own_cause progs own row ≡ cause
own_score progs own row cause short place prog score =
    later_cause (list_cause (length own)) _ (short_list (length own) short)
    ∙ later_cause (place_cause (takes_place (number_in (field_of row 1)) own) (field_of row 1)) _ place
    ∙ later_cause (prog_cause progs (takes_prog (number_among progs (field_of row 2)) own) (field_of row 2)) _ prog
    ∙ score
