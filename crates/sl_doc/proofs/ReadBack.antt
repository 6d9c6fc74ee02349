-- The records of the text of a document are those that were written.
use Rattle.std.proofs.Common.{◌≡◌, ◌∙◌, ◌<◌, ◌≤◌, ◌+◌, ℕ, zero, suc, true, List, [], ◌∷◌, ◌++◌, length, get_or, Some, refl, sym, ap, arith, length-append}
use Rattle.std.specs.Prelude.{flat_map, slice_get, slice_index, All, Option, None, drop}
use Rattle.std.proofs.lemmas.List.Elements.{All-append, All-map}
use Rattle.std.proofs.lemmas.List.Concat.{flat_map-cons}
use Rattle.csv.specs.Machine.{next_record}
use Rattle.csv.specs.Reading.{records_from, records, default_config, strip_bom}
use Rattle.csv.specs.declared.parser.State.TheVariants as st
use Rattle.csv.proofs.RoundTrip.{read-write}
use Rattle.sl_types.specs.declared.kinds.Rule.{Rule}
use Rattle.sl_types.specs.declared.kinds.Rule.TheVariants.{H, L, Merit}
use Rattle.sl_types.specs.declared.kinds.Entry.{Entry}
use Rattle.sl_types.specs.declared.kinds.Raise.{Raise}
use Rattle.sl_types.specs.Market.{list_of, pool_numbers}
use Rattle.sl_types.specs.Valid.{applicant_numbers}
use Rattle.sl_codes.specs.Records.{Record, records_of}
use Rattle.sl_instance.specs.NamedMarket.{NamedMarket, IsNamed}
use Rattle.sl_doc.specs.Document.{Document}
use Rattle.sl_codes.specs.RecordText.{text_of_record}
use Rattle.sl_doc.specs.ResultText.{version_record, rule_record, limit_record, choice_record, admit_record, raise_record, end_record, limit_records, admit_records, raise_records, head_records, content_records, body_records, result_records, result_text}
use Rattle.sl_doc.proofs.Lines.{line_any, line_of_number}
use Rattle.sl_doc.proofs.PlainText.{is_one_line, AreOneLine, row_plain}

-- a record that `csv` writes as the format does and reads back
abbrev pub IsPlain : Record → Type 0
IsPlain row = (2 ≤ length row) × AreOneLine row

rest_plain : (row : Record) (rows : List Record) → All IsPlain (row ∷ rows) → All IsPlain rows
rest_plain row rows h = λ k d lt. h (suc k) d (omega (arith, lt))

first_plain : (row : Record) (rows : List Record) → All IsPlain (row ∷ rows) → IsPlain row
first_plain row rows h = h 0 [] (omega arith)

-- one record and what follows
next_plain : (row : Record) (tail : List ℕ) → IsPlain row → next_record default_config st.StartRecord [] [] (text_of_record row ++ tail) ≡ Some (row, st.StartRecord, tail)
next_plain [] tail h = absurd (omega (arith, h.0))
next_plain (f ∷ []) tail h = absurd (omega (arith, h.0))
next_plain (f ∷ g ∷ fs) tail h =
    ap (λ text. next_record default_config st.StartRecord [] [] (text ++ tail)) (sym (row_plain f g fs h.1)) ∙ read-write (f ∷ g ∷ fs) tail

-- all of them
read_all : (rows : List Record) (fuel : ℕ) → All IsPlain rows → length rows < fuel → records_from default_config fuel st.StartRecord (flat_map text_of_record rows) ≡ rows
unfolding records_from next_record
read_all rows zero h lt = absurd (omega (arith, lt))
read_all [] (suc fuel) h lt = refl
read_all (row ∷ rows) (suc fuel) h lt =
    let next = next_plain row (flat_map text_of_record rows) (first_plain row rows h) in
    rw (flat_map-cons text_of_record row rows, next) (ap (λ rs. row ∷ rs) (read_all rows fuel (rest_plain row rows h) (omega (arith, lt))))

-- a record has at least one byte
some_bytes : (row : Record) → 1 ≤ length (text_of_record row)
some_bytes [] = omega arith
some_bytes (f ∷ fs) = simp length-append (omega arith)

pub fewer_records : (rows : List Record) → length rows ≤ length (flat_map text_of_record rows)
fewer_records [] = omega arith
fewer_records (row ∷ rows) =
    let here = some_bytes row in
    let rest = fewer_records rows in
    let sum = length-append (text_of_record row) (flat_map text_of_record rows) in
    rw (flat_map-cons text_of_record row rows) (omega (arith, here, rest, sum))

module _ (n : NamedMarket) (named : IsNamed n) (rule : Rule) (doc : Document) where
  plain_version : IsPlain version_record
  plain_version = (omega arith, refl)

  plain_rule : (r : Rule) → IsPlain (rule_record r)
  plain_rule H = (omega arith, refl)
  plain_rule L = (omega arith, refl)
  plain_rule Merit = (omega arith, refl)

  plain_limit : (P : ℕ) → IsPlain (limit_record n doc P)
  plain_limit P = (omega arith, rw (line_any n.pool_codes P named.pools.coded, line_of_number (slice_index doc.limits P), line_of_number (slice_index doc.counts P)) refl)

  plain_choice : (code : List ℕ) → is_one_line code ≡ true → (o : Option Entry) → IsPlain (choice_record n code o)
  plain_choice code h None = (omega arith, rw h refl)
  plain_choice code h (Some e) = (omega arith, rw (h, line_of_number e.place, line_any n.prog_codes e.prog.0 named.progs.coded) refl)

  plain_raise : (r : Raise) → IsPlain (raise_record n r)
  plain_raise r = (omega arith, rw (line_any n.pool_codes r.pool.0 named.pools.coded, line_of_number r.limit) refl)

  plain_end : (count : ℕ) → IsPlain (end_record count)
  plain_end count = (omega arith, rw (line_of_number count) refl)

  plain_content : All IsPlain (content_records n doc)
  plain_content =
      let limits : All IsPlain (limit_records n doc) = All-map IsPlain (limit_record n doc) (pool_numbers n.market) (λ k d lt. plain_limit (get_or (pool_numbers n.market) k d)) in
      let admits : All IsPlain (admit_records n doc) = All-map IsPlain (admit_record n doc) (applicant_numbers n.market) (λ k d lt.
      let a = get_or (applicant_numbers n.market) k d in
      plain_choice (get_or n.app_codes a []) (line_any n.app_codes a named.applicants.coded) (slice_get (list_of n.market a) (slice_index doc.admitted a))) in
      let raises : All IsPlain (raise_records n doc) = All-map IsPlain (raise_record n) doc.raises (λ k d lt. plain_raise (get_or doc.raises k d)) in
      All-append IsPlain (limit_records n doc) (admit_records n doc ++ raise_records n doc) limits (All-append IsPlain (admit_records n doc) (raise_records n doc) admits raises)

  all_plain : All IsPlain (result_records n rule doc)
  all_plain = All-append IsPlain (body_records n rule doc) (end_record (length (body_records n rule doc)) ∷ [])
      (All-append IsPlain (head_records rule) (content_records n doc) (two version_record (rule_record rule) plain_version (plain_rule rule)) plain_content)
      (one (end_record (length (body_records n rule doc))) (plain_end (length (body_records n rule doc))))
    where
      one : (r : Record) → IsPlain r → All IsPlain (r ∷ [])
      one r h zero d lt = h
      one r h (suc k) d lt = absurd (omega (arith, lt))

      two : (r s : Record) → IsPlain r → IsPlain s → All IsPlain (r ∷ s ∷ [])
      two r s h g zero d lt = h
      two r s h g (suc zero) d lt = g
      two r s h g (suc (suc k)) d lt = absurd (omega (arith, lt))

  -- the text begins with no byte order mark
  no_mark : (rows : List Record) → strip_bom (flat_map text_of_record (version_record ∷ rows)) ≡ flat_map text_of_record (version_record ∷ rows)
  unfolding strip_bom
  no_mark rows = rw (flat_map-cons text_of_record version_record rows) refl

  -- the records of the text are those that were written
  pub records_again : records_of (result_text n rule doc) ≡ result_records n rule doc
  records_again =
      let few = fewer_records (result_records n rule doc) in
      ap (records default_config) (no_mark (drop 1 (result_records n rule doc)))
      ∙ read_all (result_records n rule doc) (length (result_text n rule doc) + 1) all_plain (omega (arith, few))
