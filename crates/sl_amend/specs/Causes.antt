-- What is wrong with an amendment that is applied to a draft: the first cause, field by field from left to right.
use Rattle.std.specs.Prelude.{ℕ, ◌&&◌, ◌||◌, ◌==◌, not, Bool, List, [], length, nat_lt, nat_le, Option, Some, None}
use Rattle.std.specs.Option.{option_or}
use Rattle.std.specs.List.{list_any}
use Rattle.sl_types.specs.declared.kinds.Entry.{Entry}
use Rattle.sl_types.specs.declared.kinds.TheConstants.{MAX_APPLICANTS, MAX_CHOICES, MAX_SCORE}
use Rattle.sl_types.specs.Rules.{names_prog}
use Rattle.sl_codes.specs.declared.faults.Cause.{Cause}
use Rattle.sl_codes.specs.declared.faults.Cause.TheVariants.{BadKind, TooMany, UnknownPool, UnknownProgramme, NotEmpty, UnknownApplicant, KnownApplicant, UnknownChoice, LastChoice}
use Rattle.sl_codes.specs.Codes.{has_code}
use Rattle.sl_codes.specs.Fields.{number_in}
use Rattle.sl_codes.specs.Faults.{cause_if, code_cause, name_cause, number_cause}
use Rattle.sl_codes.specs.Records.{Record, field_of}
use Rattle.sl_pools.specs.Pools.{is_empty_field, quota_cause}
use Rattle.sl_choices.specs.Choices.{list_cause, place_cause, prog_cause, number_among}
use Rattle.sl_amend.specs.declared.kind.Kind.{Kind}
use Rattle.sl_amend.specs.declared.kind.Kind.TheVariants.{Quota, New, Add, Drop, Withdraw, Score}
use Rattle.sl_amend.specs.Kinds.{kind_of}
use Rattle.sl_amend.specs.DraftMarket.{DraftMarket, applicant_count, application_count, is_applicant_where, is_here, is_present, own_choices}

-- the fields of a row: `kind,subject,place,programme,number`
abbrev pub kind_field : Record → List ℕ
kind_field row = field_of row 0

abbrev pub subject_field : Record → List ℕ
subject_field row = field_of row 1

abbrev pub place_field : Record → List ℕ
place_field row = field_of row 2

abbrev pub programme_field : Record → List ℕ
programme_field row = field_of row 3

abbrev pub number_field : Record → List ℕ
number_field row = field_of row 4

-- what is wrong with a field that must be empty
abbrev pub empty_cause : List ℕ → Option Cause
empty_cause field = cause_if (not (is_empty_field field)) NotEmpty

-- what is wrong with a field that must name an applicant who is present
abbrev pub present_cause : DraftMarket → List ℕ → Option Cause
present_cause draft field = cause_if (not (is_present draft field)) UnknownApplicant

-- the code is that of an applicant of the tables, or of one who was withdrawn
abbrev pub is_known : DraftMarket → List ℕ → Bool
is_known draft code = is_applicant_where (λ a. nat_lt a draft.of_tables || not (is_here draft a)) draft code

-- no further application may be added
abbrev pub has_all_applications : DraftMarket → Bool
has_all_applications draft = nat_le MAX_CHOICES (application_count draft)

-- no further applicant may be made
abbrev pub has_all_applicants : DraftMarket → Bool
has_all_applicants draft = nat_le MAX_APPLICANTS (applicant_count draft)

-- the row of a code would make one applicant more than there may be, or add one application more
abbrev pub makes_too_many : DraftMarket → List ℕ → Bool
makes_too_many draft code =
    (not (has_code draft.named.app_codes code) && has_all_applicants draft) || has_all_applications draft

-- what is wrong with the subject of a `new` row: a code, of an applicant whom the file makes, with room for a choice
abbrev pub new_subject_cause : DraftMarket → List ℕ → Option Cause
new_subject_cause draft field =
    option_or (code_cause field)
    (option_or (cause_if (is_known draft field) KnownApplicant)
    (option_or (cause_if (makes_too_many draft field) TooMany)
    (list_cause (length (own_choices draft field)))))

-- no further application may be added, or the applicant has the most choices
abbrev pub room_cause : DraftMarket → List Entry → Option Cause
room_cause draft own = option_or (cause_if (has_all_applications draft) TooMany) (list_cause (length own))

-- what is wrong with the subject of an `add` row: an applicant who is present, with room for a choice
abbrev pub add_subject_cause : DraftMarket → List ℕ → Option Cause
add_subject_cause draft field =
    option_or (present_cause draft field) (room_cause draft (own_choices draft field))

-- one of these choices has this place
abbrev pub takes_place : ℕ → List Entry → Bool
takes_place place choices = list_any (λ e. e.place == place) choices

-- what is wrong with place, programme and score of a row that adds a choice to these
abbrev pub choice_cause : List (List ℕ) → List Entry → Record → Option Cause
choice_cause progs own row =
    option_or (place_cause (takes_place (number_in (place_field row)) own) (place_field row))
    (option_or (prog_cause progs (names_prog (number_among progs (programme_field row)) own) (programme_field row))
    (number_cause 0 MAX_SCORE (number_field row)))

-- what is wrong with a field that must name the programme of one of these choices
abbrev pub chosen_cause : List (List ℕ) → List Entry → List ℕ → Option Cause
chosen_cause progs own field =
    option_or (name_cause UnknownProgramme progs field)
    (cause_if (not (names_prog (number_among progs field) own)) UnknownChoice)

-- the same where the choice is taken away, which may not be the only one
abbrev pub dropped_cause : List (List ℕ) → List Entry → List ℕ → Option Cause
dropped_cause progs own field =
    option_or (chosen_cause progs own field) (cause_if (length own == 1) LastChoice)

abbrev pub quota_row_cause : DraftMarket → Record → Option Cause
quota_row_cause draft row =
    option_or (name_cause UnknownPool draft.named.pool_codes (subject_field row))
    (option_or (empty_cause (place_field row))
    (option_or (empty_cause (programme_field row))
    (quota_cause (number_field row))))

-- what is wrong with a row that adds a choice, after its subject is known to be present
abbrev pub further_cause : DraftMarket → Record → Option Cause
further_cause draft row =
    option_or (room_cause draft (own_choices draft (subject_field row)))
    (choice_cause draft.named.prog_codes (own_choices draft (subject_field row)) row)

-- what is wrong with a row that makes an applicant, after its subject is known to be a code that isn't there
abbrev pub first_cause : DraftMarket → Record → Option Cause
first_cause draft row =
    option_or (cause_if (has_all_applicants draft || has_all_applications draft) TooMany)
    (choice_cause draft.named.prog_codes [] row)

abbrev pub new_row_cause : DraftMarket → Record → Option Cause
new_row_cause draft row =
    option_or (new_subject_cause draft (subject_field row))
    (choice_cause draft.named.prog_codes (own_choices draft (subject_field row)) row)

abbrev pub add_row_cause : DraftMarket → Record → Option Cause
add_row_cause draft row =
    option_or (add_subject_cause draft (subject_field row))
    (choice_cause draft.named.prog_codes (own_choices draft (subject_field row)) row)

abbrev pub drop_row_cause : DraftMarket → Record → Option Cause
drop_row_cause draft row =
    option_or (present_cause draft (subject_field row))
    (option_or (empty_cause (place_field row))
    (option_or (dropped_cause draft.named.prog_codes (own_choices draft (subject_field row)) (programme_field row))
    (empty_cause (number_field row))))

abbrev pub withdraw_row_cause : DraftMarket → Record → Option Cause
withdraw_row_cause draft row =
    option_or (present_cause draft (subject_field row))
    (option_or (empty_cause (place_field row))
    (option_or (empty_cause (programme_field row))
    (empty_cause (number_field row))))

abbrev pub score_row_cause : DraftMarket → Record → Option Cause
score_row_cause draft row =
    option_or (present_cause draft (subject_field row))
    (option_or (empty_cause (place_field row))
    (option_or (chosen_cause draft.named.prog_codes (own_choices draft (subject_field row)) (programme_field row))
    (number_cause 0 MAX_SCORE (number_field row))))

-- what is wrong with a row of a kind, where its first field names one
abbrev pub cause_by_kind : Option Kind → DraftMarket → Record → Option Cause
cause_by_kind None draft row = Some BadKind
cause_by_kind (Some Quota) draft row = quota_row_cause draft row
cause_by_kind (Some New) draft row = new_row_cause draft row
cause_by_kind (Some Add) draft row = add_row_cause draft row
cause_by_kind (Some Drop) draft row = drop_row_cause draft row
cause_by_kind (Some Withdraw) draft row = withdraw_row_cause draft row
cause_by_kind (Some Score) draft row = score_row_cause draft row

-- what is wrong with a row that is applied to a draft
abbrev pub cause_of_row : DraftMarket → Record → Option Cause
cause_of_row draft row = cause_by_kind (kind_of (kind_field row)) draft row
