-- The amendment file: its form, and the passes over the whole file.
use Rattle.std.specs.Prelude.{◌≡◌, ℕ, ◌==◌, Bool, true, false, List, ◌∷◌, [], codes, drop, find, map, position, option_and_then, if◌then◌else◌, Option, Some, None}
use Rattle.std.specs.Option.{option_or}
use Rattle.sl_types.specs.declared.kinds.Entry.{Entry}
use Rattle.sl_codes.specs.declared.faults.Cause.TheVariants.{MeritDiffers, MeritTied}
use Rattle.sl_codes.specs.declared.faults.Table.TheVariants.{Amendments}
use Rattle.sl_codes.specs.declared.faults.TableFault.{TableFault}
use Rattle.sl_codes.specs.Faults.{Form, first_fault, pass_fault}
use Rattle.sl_codes.specs.Codes.{number_of}
use Rattle.sl_codes.specs.Records.{Record}
use Rattle.sl_instance.specs.NamedMarket.{NamedMarket}
use Rattle.sl_amend.specs.declared.kind.Kind.{Kind}
use Rattle.sl_amend.specs.declared.kind.Kind.TheVariants.{Quota, New, Add, Drop, Withdraw, Score}
use Rattle.sl_amend.specs.declared.row.Row.{Row}
use Rattle.sl_amend.specs.declared.rows.TheConstants.{MAX_AMENDMENTS}
use Rattle.sl_amend.specs.Kinds.{kind_of}
use Rattle.sl_amend.specs.DraftMarket.{DraftMarket, opening, applicant_number, own_choices}
use Rattle.sl_amend.specs.Causes.{kind_field, subject_field, programme_field, cause_of_row}
use Rattle.sl_amend.specs.Applied.{draft_after}
use Rattle.sl_amend.specs.Conflicts.{is_contradicted_by, is_tied_elsewhere, is_choice_where}

abbrev pub header : List (List ℕ)
header = codes "kind" ∷ codes "subject" ∷ codes "place" ∷ codes "programme" ∷ codes "number" ∷ []

-- the form of the file, whatever its fields say
abbrev pub rows_form : Form
rows_form = record {
  table = Amendments;
  header = header;
  most = MAX_AMENDMENTS;
  fields_cause = λ before row. None;
}

-- the fields of rows
abbrev pub rows_in : List Row → List Record
rows_in rows = map (λ row. row.fields) rows

-- the form of the file over an instance: each row is applied to the draft that those before it leave
abbrev pub amendment_form : NamedMarket → Form
amendment_form named = record {
  table = Amendments;
  header = header;
  most = MAX_AMENDMENTS;
  fields_cause = λ before row. cause_of_row (draft_after (opening named) before) row;
}

-- a row of this kind names a choice that may stand afterwards
abbrev pub makes_choice : Option Kind → Bool
makes_choice None = false
makes_choice (Some Quota) = false
makes_choice (Some New) = true
makes_choice (Some Add) = true
makes_choice (Some Drop) = false
makes_choice (Some Withdraw) = false
makes_choice (Some Score) = true

-- the choice of a programme among these
abbrev pub choice_of_prog : List Entry → ℕ → Option Entry
choice_of_prog choices g = find (λ e. e.prog.0 == g) choices

-- the choice that stands in a draft and that a row of kind `new`, `add` or `score` names, by applicant and programme
abbrev pub choice_named : DraftMarket → Record → Option Entry
choice_named draft row =
    let choices = own_choices draft (subject_field row) in
    let prog = number_of draft.named.prog_codes (programme_field row) in
    if makes_choice (kind_of (kind_field row)) then option_and_then (choice_of_prog choices) prog else None

-- a row names a choice that is in a tree with another choice of its applicant that has another score
abbrev pub names_differing : DraftMarket → Record → Bool
names_differing draft row =
    let choices = own_choices draft (subject_field row) in
    is_choice_where (is_contradicted_by draft.named.market choices) (choice_named draft row)

-- a row names a choice whose merit in its tree another applicant has too
abbrev pub names_tied : DraftMarket → Record → Bool
names_tied draft row =
    let a = applicant_number draft (subject_field row) in
    is_choice_where (is_tied_elsewhere draft.named.market a) (choice_named draft row)

-- no row names a choice in a conflict
abbrev pub NamesNone : DraftMarket → Type 0
NamesNone draft = (row : Record) → (names_differing draft row ≡ false) × (names_tied draft row ≡ false)

-- the fault of the passes over the whole file, where these rows lead to a draft
abbrev pub passes_fault : DraftMarket → List Record → Option TableFault
passes_fault draft rows =
    option_or (pass_fault Amendments MeritDiffers (position (names_differing draft) rows))
    (pass_fault Amendments MeritTied (position (names_tied draft) rows))

-- the first fault of the records of an amendment file over an instance
abbrev pub amendments_fault : NamedMarket → List Record → Option TableFault
amendments_fault named records =
    let rows = drop 1 records in
    option_or (first_fault (amendment_form named) records) (passes_fault (draft_after (opening named) rows) rows)

-- these are the records of a file without a fault, and its rows lead from an instance to a draft
pub record AreAccepted (named : NamedMarket) (records : List Record) (draft : DraftMarket) : Type 0 where
  pub right : amendments_fault named records ≡ None
  pub leads : draft ≡ draft_after (opening named) (drop 1 records)

-- the rows of some file without a fault lead from an instance to a draft
abbrev pub IsLedTo : NamedMarket → DraftMarket → Type 0
IsLedTo named draft = (records : List Record) × AreAccepted named records draft

-- the accepted rows of a file, and the instance that it amends
pub record AmendmentList : Type 0 where
  pub rows : List Record
  pub named : NamedMarket
