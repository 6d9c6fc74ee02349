-- What an amendment does to a draft.
use Rattle.std.specs.Prelude.{ℕ, true, false, not, ◌==◌, List, [], ◌∷◌, ◌++◌, map, filter, set, nat_lt, if◌then◌else◌, Option, Some, None}
use Rattle.std.specs.List.{fold}
use Rattle.sl_types.specs.declared.kinds.Entry.{Entry}
use Rattle.sl_types.specs.Market.{Market, pool_at}
use Rattle.sl_codes.specs.Codes.{has_code}
use Rattle.sl_codes.specs.Fields.{number_in}
use Rattle.sl_codes.specs.Records.{Record}
use Rattle.sl_choices.specs.Choices.{number_among}
use Rattle.sl_instance.specs.NamedMarket.{with_codes}
use Rattle.sl_amend.specs.declared.kind.Kind.{Kind}
use Rattle.sl_amend.specs.declared.kind.Kind.TheVariants.{Quota, New, Add, Drop, Withdraw, Score}
use Rattle.sl_amend.specs.Kinds.{kind_of}
use Rattle.sl_amend.specs.DraftMarket.{DraftMarket, applicant_number, own_choices}
use Rattle.sl_amend.specs.Causes.{kind_field, subject_field, place_field, programme_field, number_field}

-- the choices with one more at its place, where they are in rising order of place
abbrev pub with_choice : Entry → List Entry → List Entry
with_choice e [] = e ∷ []
with_choice e (f ∷ choices) = if nat_lt e.place f.place then e ∷ f ∷ choices else f ∷ with_choice e choices

-- the choices without that of a programme
abbrev pub without_prog : ℕ → List Entry → List Entry
without_prog g choices = filter (λ e. not (e.prog.0 == g)) choices

-- a choice with another score, where it is that of a programme
abbrev pub rescored : ℕ → ℕ → Entry → Entry
rescored g score e = if e.prog.0 == g then record e { score = score } else e

-- the choices, of which that of a programme has another score
abbrev pub with_score : ℕ → ℕ → List Entry → List Entry
with_score g score choices = map (rescored g score) choices

-- a draft with other pools and lists
abbrev pub with_market : DraftMarket → Market → DraftMarket
with_market draft market = record draft { named = record draft.named { market = market } }

-- a draft in which a pool has another quota
abbrev pub with_quota : DraftMarket → ℕ → ℕ → DraftMarket
with_quota draft P quota =
    let market = draft.named.market in
    with_market draft (record market { pools = set market.pools P (record (pool_at market P) { quota = quota }) })

-- a draft in which an applicant has other choices
abbrev pub with_list : DraftMarket → ℕ → List Entry → DraftMarket
with_list draft a choices =
    let market = draft.named.market in
    with_market draft (record market { lists = set market.lists a choices })

-- a draft with one more applicant, of this code
abbrev pub with_applicant : DraftMarket → List ℕ → List Entry → DraftMarket
with_applicant draft code choices =
    let named = draft.named in
    let market = record named.market { lists = named.market.lists ++ choices ∷ [] } in
    record draft {
      named = with_codes market named.pool_codes named.prog_codes (named.app_codes ++ code ∷ []);
      present = draft.present ++ true ∷ [];
    }

-- a draft in which an applicant isn't present
abbrev pub without_applicant : DraftMarket → ℕ → DraftMarket
without_applicant draft a = record (with_list draft a []) { present = set draft.present a false }

-- the choice that a row names, among programmes of these codes
abbrev pub choice_of : List (List ℕ) → Record → Entry
choice_of progs row = record {
  place = number_in (place_field row);
  prog = record { 0 = number_among progs (programme_field row) };
  score = number_in (number_field row);
}

-- the choices of a row's applicant with the one that it adds
abbrev pub choices_with : DraftMarket → Record → List Entry
choices_with draft row = with_choice (choice_of draft.named.prog_codes row) (own_choices draft (subject_field row))

-- a draft in which the applicant of a row has other choices
abbrev pub with_own : DraftMarket → Record → List Entry → DraftMarket
with_own draft row choices = with_list draft (applicant_number draft (subject_field row)) choices

-- the programme that a row names
abbrev pub programme_of : DraftMarket → Record → ℕ
programme_of draft row = number_among draft.named.prog_codes (programme_field row)

-- what a row of a kind does
abbrev pub applied_by_kind : Option Kind → DraftMarket → Record → DraftMarket
applied_by_kind None draft row = draft
applied_by_kind (Some Quota) draft row =
    with_quota draft (number_among draft.named.pool_codes (subject_field row)) (number_in (number_field row))
applied_by_kind (Some New) draft row =
    if has_code draft.named.app_codes (subject_field row) then with_own draft row (choices_with draft row)
    else with_applicant draft (subject_field row) (choice_of draft.named.prog_codes row ∷ [])
applied_by_kind (Some Add) draft row = with_own draft row (choices_with draft row)
applied_by_kind (Some Drop) draft row =
    with_own draft row (without_prog (programme_of draft row) (own_choices draft (subject_field row)))
applied_by_kind (Some Withdraw) draft row = without_applicant draft (applicant_number draft (subject_field row))
applied_by_kind (Some Score) draft row =
    let choices = own_choices draft (subject_field row) in
    with_own draft row (with_score (programme_of draft row) (number_in (number_field row)) choices)

-- what a row does in which nothing is wrong
abbrev pub applied : DraftMarket → Record → DraftMarket
applied draft row = applied_by_kind (kind_of (kind_field row)) draft row

-- a draft after rows in which nothing is wrong, one after another
abbrev pub draft_after : DraftMarket → List Record → DraftMarket
draft_after draft rows = fold applied draft rows
