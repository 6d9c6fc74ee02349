-- Records by the rows of their applicant.
use Rattle.std.proofs.Common.{◌≡◌, ◌∙◌, sym, refl, ℕ, Bool, List, reverse, Some, None}
use Rattle.std.specs.List.{list_any}
use Rattle.std.proofs.lemmas.List.Sorted.{list_any-IsPermutation, IsPermutation-reverse}
use Rattle.sl_codes.specs.Codes.{number_of, with_code}
use Rattle.sl_codes.specs.Records.{Record, field_of}
use Rattle.sl_choices.specs.declared.choices.ChoiceRow.{ChoiceRow}
use Rattle.sl_choices.specs.Choices.{applicant_cause, number_among}
use Rattle.sl_choices.specs.Rows.{rows_of_app, own_cause, row_cause}
use Rattle.sl_choices.proofs.Fields.{later_cause}

-- rows are tested alike from the last to the first
pub any_reversed : (p : ChoiceRow → Bool) (own : List ChoiceRow) → list_any p (reverse own) ≡ list_any p own
any_reversed p own = sym (list_any-IsPermutation p own (reverse own) (IsPermutation-reverse own))

-- what is wrong with a record of an applicant in whose field nothing is
pub row_by_own : (progs apps : List (List ℕ)) (rows : List ChoiceRow) (row : Record) (app : ℕ) → applicant_cause apps (field_of row 0) ≡ None
    → number_of (with_code apps (field_of row 0)) (field_of row 0) ≡ Some app → row_cause progs apps rows row ≡ own_cause progs (rows_of_app app rows) row
row_by_own progs apps rows row app right number =
    later_cause (applicant_cause apps (field_of row 0)) (own_cause progs (rows_of_app (number_among (with_code apps (field_of row 0)) (field_of row 0)) rows) row) right
    ∙ rw number refl
