-- A document that is read record by record.
use Rattle.std.specs.Prelude.{◌≡◌, ◌≤◌, ◌<◌, ◌+◌, ◌-◌, ◌==◌, ◌&&◌, Bool, true, not, Option, ℕ, List, [], ◌∷◌, ◌++◌, length, slice_index, nat_lt, All, if◌then◌else◌}
use Rattle.std.specs.Option.{option_or}
use Rattle.sl_types.specs.declared.kinds.Raise.{Raise}
use Rattle.sl_types.specs.declared.kinds.Rule.{Rule}
use Rattle.sl_types.specs.declared.kinds.Entry.{Entry}
use Rattle.sl_types.specs.declared.kinds.TheConstants.{MAX_SCORE, MAX_APPLICANTS}
use Rattle.sl_types.specs.Market.{list_of}
use Rattle.sl_codes.specs.declared.faults.Cause.{Cause}
use Rattle.sl_codes.specs.declared.faults.Cause.TheVariants.{FieldCount, AfterEnd}
use Rattle.sl_codes.specs.Faults.{cause_if}
use Rattle.sl_codes.specs.Records.{Record, field_of}
use Rattle.sl_instance.specs.NamedMarket.{NamedMarket}
use Rattle.sl_doc.specs.Document.{Document}
use Rattle.sl_codes.specs.Fields.{number_in}
use Rattle.sl_doc.specs.Reading.{is_raise, is_end, has_end, index_of, raise_of, standing_cause, document_of}

-- a document of which nothing was read
abbrev pub no_document : Document
no_document = record { limits = []; counts = []; admitted = []; raises = [] }

-- a document with the limit and the count of one more pool
abbrev pub and_limit : Document → ℕ → ℕ → Document
and_limit doc limit count = record doc { limits = doc.limits ++ limit ∷ []; counts = doc.counts ++ count ∷ [] }

-- with the admission of one more applicant
abbrev pub and_admission : Document → ℕ → Document
and_admission doc index = record doc { admitted = doc.admitted ++ index ∷ [] }

-- with one more raise
abbrev pub and_raise : Document → Raise → Document
and_raise doc raise = record doc { raises = doc.raises ++ raise ∷ [] }

-- a document and what one more record holds
abbrev pub with_limit : Document → Record → Document
with_limit doc row = and_limit doc (number_in (field_of row 2)) (number_in (field_of row 3))

abbrev pub with_admit : List (List ℕ) → List Entry → Document → Record → Document
with_admit progs choices doc row = and_admission doc (index_of progs choices row)

-- the same of the applicant with a number
abbrev pub with_applicant : NamedMarket → ℕ → Document → Record → Document
with_applicant n a doc row = with_admit n.prog_codes (list_of n.market a) doc row

abbrev pub with_raise : List (List ℕ) → Document → Record → Document
with_raise pools doc row = and_raise doc (raise_of pools row)

abbrev pub with_closing : List (List ℕ) → Document → Record → Document
with_closing pools doc row = if is_raise row then with_raise pools doc row else doc

-- the same by how many records stand between the header and it
abbrev pub with_row : NamedMarket → ℕ → Document → Record → Document
with_row n k doc row =
    if k == 0 then doc
    else if nat_lt (k - 1) (length n.market.pools) then with_limit doc row
    else if nat_lt (k - 1 - length n.market.pools) (length n.market.lists)
    then with_applicant n (k - 1 - length n.market.pools) doc row
    else with_closing n.pool_codes doc row

-- a record at which the document ends: only where all pools and applicants have theirs
abbrev pub is_end_at : NamedMarket → ℕ → Record → Bool
is_end_at n k row = not (nat_lt k (1 + length n.market.pools + length n.market.lists)) && is_end row

-- what is wrong with a record that stands after so many, of which one may have been the end
abbrev pub taken_cause : NamedMarket → Rule → ℕ → Bool → Record → Option Cause
taken_cause n rule rows ended row =
    option_or (cause_if (not (length row == 4)) FieldCount)
    (option_or (cause_if ended AfterEnd)
    (standing_cause n rule rows row))

-- what was read of a document is in its ranges
pub record HasRanges (n : NamedMarket) (doc : Document) : Type 0 where
  pub limits : All (λ y. y ≤ MAX_SCORE + 1) doc.limits
  pub counts : All (λ k. k ≤ MAX_APPLICANTS) doc.counts
  pub admitted : (a : ℕ) → a < length doc.admitted → slice_index doc.admitted a ≤ length (list_of n.market a)
  pub raises : All (λ r. (r.pool.0 < length n.market.pools) × (1 ≤ r.limit) × (r.limit ≤ MAX_SCORE + 1)) doc.raises

-- what was read of these records, how many there were, and whether the end was one of them
pub record IsDraft (n : NamedMarket) (read : List Record) (doc : Document) (rows : ℕ) (ended : Bool) : Type 0 where
  pub counted : rows ≡ length read
  pub closed : ended ≡ has_end read
  pub holds : doc ≡ document_of n read
  pub whole : ended ≡ true → 1 + length n.market.pools + length n.market.lists ≤ length read
  pub ranged : HasRanges n doc
