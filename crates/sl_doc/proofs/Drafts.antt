-- What is read of a document record by record.
use Rattle.std.proofs.Common.{◌≡◌, ◌∙◌, ◌<◌, ◌≤◌, ◌+◌, ◌++◌, ◌-◌, ◌==◌, ◌&&◌, ◌||◌, ℕ, zero, suc, Bool, true, false, not, nat_lt, nat_le, List, [], ◌∷◌, length, get_or, None, refl, sym, ap, arith, inl, inr, true≢false, length-append}
use Rattle.std.specs.Prelude.{zip, codes}
use Rattle.std.specs.Str.{bytes_eq}
use Rattle.std.proofs.lemmas.Bool.{cases_Bool, and_parts, eqb-false, ltb-true, ltb-false, lt-ltb, leb-true}
use Rattle.std.proofs.lemmas.List.{length-map}
use Rattle.std.proofs.lemmas.List.Folds.{list_any-append}
use Rattle.std.proofs.lemmas.Slice.Eq.{bytes_eq-Decides}
use Rattle.std.proofs.lemmas.Slice.Zip.{length-zip}
use Rattle.sl_types.specs.declared.kinds.Rule.{Rule}
use Rattle.sl_types.specs.declared.kinds.Entry.{Entry}
use Rattle.sl_codes.specs.Fields.{number_in}
use Rattle.sl_codes.specs.declared.faults.Cause.TheVariants.{OutOfOrder, AfterEnd}
use Rattle.sl_codes.specs.Faults.{record_cause}
use Rattle.sl_codes.specs.Records.{Record, field_of}
use Rattle.sl_codes.proofs.FirstFault.{neither, unbroken}
use Rattle.sl_instance.specs.NamedMarket.{NamedMarket}
use Rattle.sl_doc.specs.Document.{Document, IsInRange}
use Rattle.sl_doc.specs.Drafts.{no_document, with_row, is_end_at, taken_cause, HasRanges, IsDraft}
use Rattle.sl_doc.specs.Reading.{has_word, is_end, has_end, naming_cause, index_of, standing_cause, most_records, result_form, pool_rows, applicant_rows, document_of}
use Rattle.sl_doc.proofs.Ranges.{ranges_more}
use Rattle.sl_doc.proofs.Recorded.{document_more, document_none}
use Rattle.sl_doc.proofs.Windows.{part_length}

-- nothing was read
no_ranges : (n : NamedMarket) → HasRanges n no_document
no_ranges n = record {
  limits = λ k d lt. absurd (omega (arith, lt));
  counts = λ k d lt. absurd (omega (arith, lt));
  admitted = λ a lt. absurd (omega (arith, lt));
  raises = λ k d lt. absurd (omega (arith, lt));
}

pub draft_none : (n : NamedMarket) → IsDraft n [] no_document 0 false
draft_none n = record {
  counted = refl;
  closed = refl;
  holds = sym (document_none n);
  whole = λ e. absurd (true≢false (sym e));
  ranged = no_ranges n;
}

-- what is wrong with a record, by what was read before it
pub causes_alike : (n : NamedMarket) (rule : Rule) (read : List Record) (doc : Document) (rows : ℕ) (ended : Bool) (row : Record) → IsDraft n read doc rows ended → length read < most_records
    → record_cause (result_form n rule) read row ≡ taken_cause n rule rows ended row
causes_alike n rule read doc rows ended row h few =
    let room : nat_le most_records (length read) ≡ false = not_above most_records (length read) few in
    rw (room, h.counted, h.closed) refl
  where
    not_above : (m k : ℕ) → k < m → nat_le m k ≡ false
    not_above m k lt = elim (cases_Bool (nat_le m k)) [
      | inl e ↦ absurd (let le = leb-true m k e in omega (arith, le, lt))
      | inr e ↦ e
    ]

-- a record with another word isn't the end
word_apart : (word : List ℕ) (row : Record) → bytes_eq word (codes "end") ≡ false → has_word word row ≡ true → is_end row ≡ false
word_apart word row apart h =
    let is : field_of row 0 ≡ word = (bytes_eq-Decides (field_of row 0) word).0 h in
    rw is apart

not_false : (b : Bool) → not b ≡ false → b ≡ true
not_false true h = refl
not_false false h = absurd (true≢false h)

naming_word : (word code : List ℕ) (row : Record) → naming_cause word code row ≡ None → has_word word row ≡ true
naming_word word code row h = (and_parts (has_word word row) (bytes_eq (field_of row 1) code) (not_false (has_word word row && bytes_eq (field_of row 1) code) (unbroken _ OutOfOrder h))).0

-- the end stands where it may
pub end_alike : (n : NamedMarket) (rule : Rule) (k : ℕ) (row : Record) → standing_cause n rule k row ≡ None → is_end_at n k row ≡ is_end row
end_alike n rule k row h = elim (cases_Bool (nat_lt k (1 + length n.market.pools + length n.market.lists))) [
  | inr past ↦ rw past refl
  | inl early ↦ rw early (sym (not_yet n rule k row (ltb-true k (1 + length n.market.pools + length n.market.lists) early) h))
]
  where
    not_yet : (n : NamedMarket) (rule : Rule) (k : ℕ) (row : Record) → k < 1 + length n.market.pools + length n.market.lists → standing_cause n rule k row ≡ None → is_end row ≡ false
    not_yet n rule k row lt h = elim (cases_Bool (k == 0)) [
      | inl e ↦ word_apart (codes "rule") row refl (not_false (has_word (codes "rule") row) (unbroken (not (has_word (codes "rule") row)) OutOfOrder (neither _ _ (rw e at h)).0))
      | inr e ↦ elim (cases_Bool (nat_lt (k - 1) (length n.market.pools))) [
        | inl f ↦ word_apart (codes "limit") row refl (naming_word (codes "limit") (get_or n.pool_codes (k - 1) []) row (neither _ _ (rw (e, f) at h)).0)
        | inr f ↦
            let past = ltb-false (k - 1) (length n.market.pools) f in
            let within : nat_lt (k - 1 - length n.market.pools) (length n.market.lists) ≡ true = lt-ltb (k - 1 - length n.market.pools) (length n.market.lists) (positive k (length n.market.pools) (length n.market.lists) (eqb-false k 0 e) past lt) in
            word_apart (codes "admit") row refl (naming_word (codes "admit") (get_or n.app_codes (k - 1 - length n.market.pools) []) row (neither _ _ (rw (e, f, within) at h)).0)
      ]
    ]
      where
        positive : (k p l : ℕ) → (k ≡ 0 → ⊥) → p ≤ k - 1 → k < 1 + p + l → k - 1 - p < l
        positive zero p l h past lt = absurd (h refl)
        positive (suc k) p l h past lt = omega (arith, past, lt)

-- how many admissions were read
own_admissions : (n : NamedMarket) (read : List Record) → length n.market.pools ≤ length read - 1 → length read - 1 - length n.market.pools < length n.market.lists
    → length (document_of n read).admitted ≡ length read - 1 - length n.market.pools
own_admissions n read past lt =
    let rows = part_length read (1 + length n.market.pools) (length n.market.lists) in
    let side = length-zip n.market.lists (applicant_rows n read) in
    length-map (zip n.market.lists (applicant_rows n read)) (λ (p : List Entry × Record). index_of n.prog_codes p.0 p.1) ∙ side ∙ omega (arith, rows, lt)

no_end : (n : NamedMarket) (rule : Rule) (rows : ℕ) (ended : Bool) (row : Record) → taken_cause n rule rows ended row ≡ None → (ended ≡ false) × (standing_cause n rule rows row ≡ None)
no_end n rule rows ended row h = let later = neither _ _ (neither _ _ h).1 in (unbroken ended AfterEnd later.0, later.1)

-- one more record in which nothing is wrong
pub draft_more : (n : NamedMarket) (rule : Rule) (read : List Record) (doc : Document) (rows : ℕ) (ended : Bool) (row : Record) → length n.pool_codes ≡ length n.market.pools
    → IsDraft n read doc rows ended → taken_cause n rule rows ended row ≡ None → IsDraft n (read ++ row ∷ []) (with_row n rows doc row) (rows + 1) (is_end_at n rows row)
draft_more n rule read doc rows ended row each h right =
    let open_ = no_end n rule rows ended row right in
    let longer = length-append read (row ∷ []) in
    let none : has_end read ≡ false = sym h.closed ∙ open_.0 in
    record {
      counted = omega (arith, h.counted, longer);
      closed = end_alike n rule rows row open_.1 ∙ sym (list_any-append is_end read (row ∷ []) ∙ rw none (or_none (is_end row)));
      holds = rw (h.counted, h.holds) (sym (document_more n read row));
      whole = λ e. let late = ltb-false rows (1 + length n.market.pools + length n.market.lists) (not_true _ (and_parts (not (nat_lt rows (1 + length n.market.pools + length n.market.lists))) (is_end row) e).0) in omega (arith, late, h.counted, longer);
      ranged = ranges_more n rule rows doc row each (λ past lt. rw (h.holds, h.counted) (own_admissions n read (rw h.counted at past) (rw h.counted at lt))) h.ranged open_.1;
    }
  where
    or_none : (b : Bool) → (b || false) ≡ b
    or_none true = refl
    or_none false = refl

    not_true : (b : Bool) → not b ≡ true → b ≡ false
    not_true true e = absurd (true≢false (sym e))
    not_true false e = refl

-- a whole document is in range
pub draft_whole : (n : NamedMarket) (read : List Record) (doc : Document) (rows : ℕ) (ended : Bool) → IsDraft n read doc rows ended → ended ≡ true → IsInRange n doc
draft_whole n read doc rows ended h closed =
    let whole = h.whole closed in
    let pools = part_length read 1 (length n.market.pools) in
    let apps = part_length read (1 + length n.market.pools) (length n.market.lists) in
    let side = length-zip n.market.lists (applicant_rows n read) in
    let each_limit : length doc.limits ≡ length n.market.pools = ap (λ d. length d.limits) h.holds ∙ length-map (pool_rows n read) (λ row. number_in (field_of row 2)) ∙ omega (arith, pools, whole) in
    let each_count : length doc.counts ≡ length n.market.pools = ap (λ d. length d.counts) h.holds ∙ length-map (pool_rows n read) (λ row. number_in (field_of row 3)) ∙ omega (arith, pools, whole) in
    let each : length doc.admitted ≡ length n.market.lists = ap (λ d. length d.admitted) h.holds ∙ length-map (zip n.market.lists (applicant_rows n read)) (λ (p : List Entry × Record). index_of n.prog_codes p.0 p.1) ∙ side ∙ omega (arith, apps, whole) in
    record {
      each_limit = each_limit;
      limits = h.ranged.limits;
      each_count = each_count;
      counts = h.ranged.counts;
      each_admission = each;
      admitted = λ a lt. h.ranged.admitted a (omega (arith, lt, each));
      raises = h.ranged.raises;
    }
