-- The rows of applicants, and what a table that was read keeps.
use Rattle.std.specs.Prelude.{◌≡◌, ◌≤◌, ◌<◌, All, ◌&&◌, ◌==◌, not, Bool, true, ℕ, List, length, map, filter, nat_eq, nat_le, nat_lt, Option}
use Rattle.std.specs.Option.{option_or}
use Rattle.std.specs.List.{list_all, list_any, IsDistinct}
use Rattle.sl_types.specs.declared.kinds.TheConstants.{MAX_APPLICANTS, MAX_CHOICES, MAX_LIST, MAX_PLACE, MAX_SCORE}
use Rattle.sl_codes.specs.declared.faults.Cause.{Cause}
use Rattle.sl_codes.specs.declared.faults.Cause.TheVariants.{FieldCount, TooMany}
use Rattle.sl_codes.specs.Codes.{has_code, with_code}
use Rattle.sl_codes.specs.Fields.{is_code, number_in}
use Rattle.sl_codes.specs.Faults.{cause_if, number_cause}
use Rattle.sl_codes.specs.Records.{Record, field_of}
use Rattle.sl_choices.specs.declared.choices.ChoiceRow.{ChoiceRow}
use Rattle.sl_choices.specs.Choices.{ChoiceList, applicants_of, choice_of, applicant_cause, list_cause, place_cause, prog_cause, number_among}

-- the rows of an applicant
abbrev pub rows_of_app : ℕ → List ChoiceRow → List ChoiceRow
rows_of_app app rows = filter (λ row. nat_eq row.app.0 app) rows

-- one of these rows has this place
abbrev pub takes_place : ℕ → List ChoiceRow → Bool
takes_place place own = list_any (λ row. nat_eq row.place place) own

-- one of these rows has this programme
abbrev pub takes_prog : ℕ → List ChoiceRow → Bool
takes_prog prog own = list_any (λ row. nat_eq row.prog.0 prog) own

-- what is wrong with a record by the rows of its applicant before it
abbrev pub own_cause : List (List ℕ) → List ChoiceRow → Record → Option Cause
own_cause progs own row =
    option_or (list_cause (length own))
    (option_or (place_cause (takes_place (number_in (field_of row 1)) own) (field_of row 1))
    (option_or (prog_cause progs (takes_prog (number_among progs (field_of row 2)) own) (field_of row 2))
    (number_cause 0 MAX_SCORE (field_of row 3))))

-- what is wrong with a record by the applicants and the rows before it
abbrev pub row_cause : List (List ℕ) → List (List ℕ) → List ChoiceRow → Record → Option Cause
row_cause progs apps rows row =
    option_or (applicant_cause apps (field_of row 0))
    (own_cause progs (rows_of_app (number_among (with_code apps (field_of row 0)) (field_of row 0)) rows) row)

-- the same with the number of its fields, and whether it is one too many
abbrev pub taken_cause : List (List ℕ) → List (List ℕ) → List ChoiceRow → Record → Option Cause
taken_cause progs apps rows row =
    option_or (cause_if (not (length row == 4)) FieldCount)
    (option_or (cause_if (nat_le MAX_CHOICES (length rows)) TooMany)
    (row_cause progs apps rows row))

-- the row of a record whose applicant may be a new one
abbrev pub row_taken : List (List ℕ) → List (List ℕ) → Record → ChoiceRow
row_taken progs apps row = choice_of progs (with_code apps (field_of row 0)) row

-- what was read of a table: the applicants and the rows of these records, each with a known programme
pub record IsDraft (progs : List (List ℕ)) (before : List Record)
    (apps : List (List ℕ)) (rows : List ChoiceRow) : Type 0 where
  pub apps_are : apps ≡ applicants_of before
  pub rows_are : rows ≡ map (choice_of progs apps) before
  pub known : list_all (λ row. has_code apps (field_of row 0)) before ≡ true
  pub named : list_all (λ row. has_code progs (field_of row 2)) before ≡ true

-- a row's numbers are in their ranges, its applicant being one of so many
abbrev pub is_row_of : ℕ → ChoiceRow → Bool
is_row_of apps row =
    nat_lt row.app.0 apps && nat_le 1 row.place && nat_le row.place MAX_PLACE && nat_le row.score MAX_SCORE

-- two rows are of one applicant and one place
abbrev pub share_place : ChoiceRow → ChoiceRow → Bool
share_place row other = nat_eq row.app.0 other.app.0 && nat_eq row.place other.place

-- two rows are of one applicant and one programme
abbrev pub share_prog : ChoiceRow → ChoiceRow → Bool
share_prog row other = nat_eq row.app.0 other.app.0 && nat_eq row.prog.0 other.prog.0

-- what an application table that was read keeps: codes of applicants who have 1 to 64 rows each, and rows in whose
-- numbers nothing is wrong, no two of one applicant with one place or one programme
pub record IsChoiceList (list : ChoiceList) : Type 0 where
  pub few : length list.rows ≤ MAX_CHOICES
  pub applicants : length list.codes ≤ MAX_APPLICANTS
  pub coded : list_all is_code list.codes ≡ true
  pub ranged : list_all (is_row_of (length list.codes)) list.rows ≡ true
  pub present : (app : ℕ) → app < length list.codes → 0 < length (rows_of_app app list.rows)
  pub short : (app : ℕ) → length (rows_of_app app list.rows) ≤ MAX_LIST
  pub places : IsDistinct share_place list.rows
  pub progs : IsDistinct share_prog list.rows

-- each row is of a known applicant and names a known programme
abbrev pub NameKnown : ChoiceList → List (List ℕ) → Type 0
NameKnown table progs = All (λ row. (row.app.0 < length table.codes) × (row.prog.0 < length progs)) table.rows
