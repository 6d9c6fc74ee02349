-- A draft as contracts see it: an instance in the course of amendment.
use Rattle.std.specs.Prelude.{ℕ, Bool, true, false, List, [], ◌∷◌, length, get_or, replicate, sum_by, count_by, unwrap_or, if◌then◌else◌}
use Rattle.sl_types.specs.declared.kinds.Entry.{Entry}
use Rattle.sl_types.specs.Market.{list_of}
use Rattle.sl_types.specs.Trees.{passes}
use Rattle.sl_codes.specs.Codes.{number_of}
use Rattle.sl_instance.specs.NamedMarket.{NamedMarket, with_codes}

-- The instance as the rows so far leave it, but that whoever was withdrawn keeps their number there and has no choices.
-- Those that the rows made stand after those of the tables, in the order of the rows that made them.
pub record DraftMarket : Type 0 where
  pub named : NamedMarket
  -- how many applicants are of the tables
  pub of_tables : ℕ
  -- by applicant: whether they are present
  pub present : List Bool

-- an instance before any row
abbrev pub opening : NamedMarket → DraftMarket
opening named = record {
  named = named;
  of_tables = length named.market.lists;
  present = replicate (length named.market.lists) true;
}

-- how many applicants are present
abbrev pub applicant_count : DraftMarket → ℕ
applicant_count draft = count_by (λ is_here. is_here) draft.present

-- how many applications are present
abbrev pub application_count : DraftMarket → ℕ
application_count draft = sum_by length draft.named.market.lists

-- the applicant of a code is one who passes
abbrev pub is_applicant_where : (ℕ → Bool) → DraftMarket → List ℕ → Bool
is_applicant_where test draft code = passes test (number_of draft.named.app_codes code)

-- the applicant of a number is present
abbrev pub is_here : DraftMarket → ℕ → Bool
is_here draft a = get_or draft.present a false

-- a code is that of an applicant who is present
abbrev pub is_present : DraftMarket → List ℕ → Bool
is_present draft code = is_applicant_where (is_here draft) draft code

-- the number of the applicant of a code; a code that isn't there has the next number
abbrev pub applicant_number : DraftMarket → List ℕ → ℕ
applicant_number draft code = unwrap_or (number_of draft.named.app_codes code) (length draft.named.app_codes)

-- the choices of the applicant of a code
abbrev pub own_choices : DraftMarket → List ℕ → List Entry
own_choices draft code = list_of draft.named.market (applicant_number draft code)

-- the elements at whose places a list of marks has true
abbrev pub marked : {A : Type 0} → List Bool → List A → List A
marked [] xs = []
marked (mark ∷ marks) [] = []
marked (mark ∷ marks) (x ∷ xs) = if mark then x ∷ marked marks xs else marked marks xs

-- The amended instance: the pools and programmes in their old order, then the old applicants that are present in their
-- old order, then the new ones in the order in which they were made.
abbrev pub amended : DraftMarket → NamedMarket
amended draft =
    let named = draft.named in
    let lists = marked draft.present named.market.lists in
    with_codes (record named.market { lists = lists }) named.pool_codes named.prog_codes
    (marked draft.present named.app_codes)
