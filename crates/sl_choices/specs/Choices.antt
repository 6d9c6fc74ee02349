-- The application table: its form, and what it holds.
use Rattle.std.specs.Prelude.{◌&&◌, not, Bool, ℕ, List, [], ◌∷◌, length, map, filter, codes, nat_eq, nat_le, unwrap_or, Option}
use Rattle.std.specs.Option.{option_or}
use Rattle.std.specs.List.{fold, list_any}
use Rattle.std.specs.Str.{bytes_eq}
use Rattle.sl_types.specs.declared.kinds.TheConstants.{MAX_APPLICANTS, MAX_CHOICES, MAX_LIST, MAX_PLACE, MAX_SCORE}
use Rattle.sl_codes.specs.declared.faults.Cause.{Cause}
use Rattle.sl_codes.specs.declared.faults.Cause.TheVariants.{TooMany, ListTooLong, RepeatedPlace, UnknownProgramme, RepeatedChoice}
use Rattle.sl_codes.specs.declared.faults.Table.TheVariants.{Applications}
use Rattle.sl_codes.specs.Codes.{has_code, number_of, with_code}
use Rattle.sl_codes.specs.Fields.{number_in}
use Rattle.sl_codes.specs.Faults.{Form, cause_if, code_cause, name_cause, number_cause}
use Rattle.sl_codes.specs.Records.{Record, field_of, codes_of}
use Rattle.sl_choices.specs.declared.choices.ChoiceRow.{ChoiceRow}

-- the codes of applicants and the rows of the table, in order
pub record ChoiceList : Type 0 where
  pub codes : List (List ℕ)
  pub rows : List ChoiceRow

-- codes, each once, in the order in which they are first seen
abbrev pub first_seen : List (List ℕ) → List (List ℕ)
first_seen codes = fold with_code [] codes

-- the applicants of these records
abbrev pub applicants_of : List Record → List (List ℕ)
applicants_of rows = first_seen (codes_of rows)

-- of these records, those of the applicant of a record
abbrev pub own_records : List Record → Record → List Record
own_records before row = filter (λ other. bytes_eq (field_of row 0) (field_of other 0)) before

-- what is wrong with the field of an applicant, where these are known: it is no code, or a new one too many
abbrev pub applicant_cause : List (List ℕ) → List ℕ → Option Cause
applicant_cause known field =
    option_or (code_cause field) (cause_if (not (has_code known field) && nat_le MAX_APPLICANTS (length known)) TooMany)

-- an applicant who has so many choices can't have one more
abbrev pub list_cause : ℕ → Option Cause
list_cause choices = cause_if (nat_le MAX_LIST choices) ListTooLong

-- what is wrong with the field of a place
abbrev pub place_cause : Bool → List ℕ → Option Cause
place_cause is_taken field = option_or (number_cause 1 MAX_PLACE field) (cause_if is_taken RepeatedPlace)

-- what is wrong with the field of a programme
abbrev pub prog_cause : List (List ℕ) → Bool → List ℕ → Option Cause
prog_cause progs is_taken field = option_or (name_cause UnknownProgramme progs field) (cause_if is_taken RepeatedChoice)

-- one of these records has the place of the record; places are compared as numbers
abbrev pub has_place : List Record → Record → Bool
has_place own row = list_any (λ other. nat_eq (number_in (field_of other 1)) (number_in (field_of row 1))) own

-- one of these records has the programme of the record
abbrev pub has_prog : List Record → Record → Bool
has_prog own row = list_any (λ other. bytes_eq (field_of row 2) (field_of other 2)) own

-- `applicant,place,programme,score`, field by field
abbrev pub choice_fields_cause : List (List ℕ) → List Record → Record → Option Cause
choice_fields_cause progs before row =
    option_or (applicant_cause (applicants_of before) (field_of row 0))
    (option_or (list_cause (length (own_records before row)))
    (option_or (place_cause (has_place (own_records before row) row) (field_of row 1))
    (option_or (prog_cause progs (has_prog (own_records before row) row) (field_of row 2))
    (number_cause 0 MAX_SCORE (field_of row 3)))))

-- the form of an application table over programmes of these codes
abbrev pub choice_form : List (List ℕ) → Form
choice_form progs = record {
  table = Applications;
  header = codes "applicant" ∷ codes "place" ∷ codes "programme" ∷ codes "score" ∷ [];
  most = MAX_CHOICES;
  fields_cause = choice_fields_cause progs;
}

-- the number of a code, or 0
abbrev pub number_among : List (List ℕ) → List ℕ → ℕ
number_among codes field = unwrap_or (number_of codes field) 0

-- the row of a record of the applicant with a number, over programmes of these codes
abbrev pub own_row : List (List ℕ) → ℕ → Record → ChoiceRow
own_row progs app row = record {
  app = record { 0 = app };
  place = number_in (field_of row 1);
  prog = record { 0 = number_among progs (field_of row 2) };
  score = number_in (field_of row 3);
}

-- the row of a record, among applicants and programmes of these codes
abbrev pub choice_of : List (List ℕ) → List (List ℕ) → Record → ChoiceRow
choice_of progs apps row = own_row progs (number_among apps (field_of row 0)) row

-- what the records after the header hold
abbrev pub choices_of : List (List ℕ) → List Record → ChoiceList
choices_of progs rows = record { codes = applicants_of rows; rows = map (choice_of progs (applicants_of rows)) rows }
