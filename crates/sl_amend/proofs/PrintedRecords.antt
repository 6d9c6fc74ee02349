-- The records of a text are those that were printed.
use Rattle.std.proofs.Common.{◌≡◌, ◌∙◌, ◌<◌, ◌≤◌, ◌+◌, ℕ, zero, suc, List, [], ◌∷◌, ◌++◌, length, Some, refl, sym, ap, arith, length-append}
use Rattle.std.specs.Prelude.{flat_map}
use Rattle.std.specs.List.{AllByRecursion}
use Rattle.std.proofs.lemmas.List.Concat.{flat_map-cons}
use Rattle.csv.specs.Machine.{next_record}
use Rattle.csv.specs.Reading.{records_from, records, default_config, strip_bom}
use Rattle.csv.specs.declared.parser.State.TheVariants as st
use Rattle.csv.proofs.RoundTrip.{read-write}
use Rattle.sl_codes.specs.Records.{Record, records_of}
use Rattle.sl_codes.specs.RecordText.{text_of_record}
use Rattle.sl_amend.proofs.PlainText.{AreOneLine, row_plain}

-- a record that `csv` writes as the format does and reads back
abbrev pub IsPlain : Record → Type 0
IsPlain row = (2 ≤ length row) × AreOneLine row

abbrev pub ArePlain : List Record → Type 0
ArePlain rows = AllByRecursion IsPlain rows

pub plain_on : (rows more : List Record) → ArePlain rows → ArePlain more → ArePlain (rows ++ more)
plain_on [] more h g = g
plain_on (row ∷ rows) more h g = (h.0, plain_on rows more h.1 g)

-- one record and what follows
next_plain : (row : Record) (tail : List ℕ) → IsPlain row → next_record default_config st.StartRecord [] [] (text_of_record row ++ tail) ≡ Some (row, st.StartRecord, tail)
next_plain [] tail h = absurd (omega (arith, h.0))
next_plain (f ∷ []) tail h = absurd (omega (arith, h.0))
next_plain (f ∷ g ∷ fs) tail h =
    ap (λ text. next_record default_config st.StartRecord [] [] (text ++ tail)) (sym (row_plain f g fs h.1)) ∙ read-write (f ∷ g ∷ fs) tail

-- all of them
read_all : (rows : List Record) (fuel : ℕ) → ArePlain rows → length rows < fuel → records_from default_config fuel st.StartRecord (flat_map text_of_record rows) ≡ rows
unfolding records_from next_record
read_all rows zero h lt = absurd (omega (arith, lt))
read_all [] (suc fuel) h lt = refl
read_all (row ∷ rows) (suc fuel) h lt =
    let next = next_plain row (flat_map text_of_record rows) h.0 in
    rw (flat_map-cons text_of_record row rows, next) (ap (λ rs. row ∷ rs) (read_all rows fuel h.1 (omega (arith, lt))))

-- a record has at least one byte
some_bytes : (row : Record) → 1 ≤ length (text_of_record row)
some_bytes [] = omega arith
some_bytes (f ∷ fs) = simp length-append (omega arith)

fewer_records : (rows : List Record) → length rows ≤ length (flat_map text_of_record rows)
fewer_records [] = omega arith
fewer_records (row ∷ rows) =
    let here = some_bytes row in
    let rest = fewer_records rows in
    let sum = length-append (text_of_record row) (flat_map text_of_record rows) in
    rw (flat_map-cons text_of_record row rows) (omega (arith, here, rest, sum))

-- a text that begins with no byte order mark
pub printed_again : (rows : List Record) → ArePlain rows → strip_bom (flat_map text_of_record rows) ≡ flat_map text_of_record rows
    → records_of (flat_map text_of_record rows) ≡ rows
printed_again rows plain bare =
    let few = fewer_records rows in
    ap (records default_config) bare ∙ read_all rows (length (flat_map text_of_record rows) + 1) plain (omega (arith, few))
