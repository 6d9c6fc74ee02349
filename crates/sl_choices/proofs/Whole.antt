-- What a whole table without a fault holds.
use Rattle.std.proofs.Common.{◌≡◌, ◌≤◌, ◌++◌, List, [], ◌∷◌, length, not, nat_le, drop, None, option_map, refl, sym, inl, inr, arith, length-append, append_assoc, append-nil, ◌∙◌, ℕ, subst}
use Rattle.std.specs.Prelude.{Option, Some, ◌&&◌}
use Rattle.std.proofs.lemmas.Bool.{cases_Bool, leb-false}
use Rattle.sl_types.specs.declared.kinds.TheConstants.{MAX_APPLICANTS}
use Rattle.sl_codes.specs.declared.faults.Cause.{Cause}
use Rattle.sl_codes.specs.declared.faults.Cause.TheVariants.{TooMany}
use Rattle.sl_codes.specs.Codes.{has_code, with_code}
use Rattle.sl_codes.specs.Faults.{first_fault, first_fault_after, fault_at, record_cause, code_cause}
use Rattle.sl_codes.specs.Records.{Record, field_of}
use Rattle.sl_codes.proofs.FirstFault.{neither, unbroken}
use Rattle.sl_choices.specs.declared.choices.ChoiceRow.{ChoiceRow}
use Rattle.sl_choices.specs.Choices.{applicant_cause, choice_form, choices_of}
use Rattle.sl_choices.specs.Rows.{taken_cause, row_taken, IsDraft, IsChoiceList}
use Rattle.sl_choices.proofs.Kept.{kept_none, kept_push}
use Rattle.sl_choices.proofs.Records.{causes_alike, prog_known, row_right, draft_none, draft_push}

-- an applicant in whose field nothing is wrong isn't one too many
few_applicants : (apps : List (List ℕ)) (code : List ℕ) → length apps ≤ MAX_APPLICANTS → applicant_cause apps code ≡ None → length (with_code apps code) ≤ MAX_APPLICANTS
few_applicants apps code few right = elim (cases_Bool (has_code apps code)) [
  | inl e ↦ rw e few
  | inr e ↦
      let own = unbroken (not (has_code apps code) && nat_le MAX_APPLICANTS (length apps)) TooMany (neither (code_cause code) _ right).1 in
      let room = leb-false MAX_APPLICANTS (length apps) (rw e at own) in
      rw e (omega (arith, room, length-append apps (code ∷ [])))
]

no_cause : (before : List Record) (form_table : _) (cause : Option Cause) → option_map (fault_at form_table (length before)) cause ≡ None → cause ≡ None
no_cause before table None h = refl
no_cause before table (Some cause) h = cc h

-- records that stand after others and have no fault are rows like those before them
kept_after : (progs : List (List ℕ)) (before rest : List Record) (apps : List (List ℕ)) (rows : List ChoiceRow) → IsDraft progs before apps rows → IsChoiceList (record { codes = apps; rows = rows })
    → first_fault_after (choice_form progs) before rest ≡ None → IsChoiceList (choices_of progs (before ++ rest))
unfolding first_fault_after
kept_after progs before [] apps rows draft kept right =
    let same : record { codes = apps; rows = rows } ≡ choices_of progs before = rw (draft.rows_are, draft.apps_are) refl in
    rw (append-nil before) (subst IsChoiceList same kept)
kept_after progs before (row ∷ rest) apps rows draft kept right =
    let parts = neither (option_map (fault_at (choice_form progs).table (length before)) (record_cause (choice_form progs) before row)) _ right in
    let here : taken_cause progs apps rows row ≡ None =
    sym (causes_alike progs before apps rows row draft) ∙ no_cause before (choice_form progs).table (record_cause (choice_form progs) before row) parts.0 in
    let few = few_applicants apps (field_of row 0) kept.applicants (neither (applicant_cause apps (field_of row 0)) _ (row_right progs apps rows row here)).0 in
    let later = kept_after progs (before ++ row ∷ []) rest (with_code apps (field_of row 0)) (rows ++ row_taken progs apps row ∷ [])
    (draft_push progs before apps rows row draft (prog_known progs apps rows row here)) (kept_push progs apps rows row kept here few) parts.1 in
    rw append_assoc at later

-- a table without a fault is such a list
pub kept_whole : (progs : List (List ℕ)) (records : List Record) → first_fault (choice_form progs) records ≡ None → IsChoiceList (choices_of progs (drop 1 records))
kept_whole progs records right =
    kept_after progs [] (drop 1 records) [] [] (draft_none progs) kept_none (neither _ _ right).1
