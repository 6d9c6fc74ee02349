-- What is read of a document is in its ranges.
use Rattle.std.proofs.Common.{◌≡◌, ◌<◌, ◌≤◌, ◌+◌, ◌++◌, ◌-◌, ◌==◌, ◌&&◌, ℕ, zero, suc, Bool, true, false, not, cond, nat_lt, nat_le, List, [], ◌∷◌, length, get_or, slice_index, Option, Some, None, refl, arith, inl, inr, true≢false}
use Rattle.std.specs.Prelude.{unwrap_or, is_none, option_and_then}
use Rattle.std.specs.List.{position_or_len}
use Rattle.std.specs.Str.{bytes_eq}
use Rattle.std.proofs.lemmas.Bool.{cases_Bool, and_parts, ltb-true, ltb-false, lt-ltb, leb-true}
use Rattle.sl_types.specs.declared.kinds.Rule.{Rule}
use Rattle.sl_types.specs.declared.kinds.TheConstants.{MAX_SCORE, MAX_APPLICANTS}
use Rattle.sl_types.specs.Market.{list_of}
use Rattle.sl_codes.specs.declared.faults.Cause.TheVariants.{BadNumber, UnknownPool}
use Rattle.sl_codes.specs.Codes.{has_code, number_of}
use Rattle.sl_codes.specs.Fields.{number_of_field, number_within, number_in}
use Rattle.sl_codes.specs.Faults.{number_cause}
use Rattle.sl_codes.specs.Records.{Record, field_of}
use Rattle.sl_codes.proofs.FirstFault.{neither, unbroken}
use Rattle.sl_instance.specs.NamedMarket.{NamedMarket}
use Rattle.sl_doc.specs.Document.{Document}
use Rattle.sl_doc.specs.Drafts.{with_row, with_limit, with_admit, with_closing, with_raise, HasRanges}
use Rattle.sl_doc.specs.Reading.{is_raise, limit_cause, index_of, raise_cause, closing_cause, standing_cause}
use Rattle.sl_doc.proofs.Indexes.{index_low}
use Rattle.sl_doc.proofs.Windows.{all_more}
use Rattle.sl_types.proofs.Lists.{place_lt}

-- a number in which nothing is wrong
pub in_range : (low high : ℕ) (field : List ℕ) → number_cause low high field ≡ None → (low ≤ number_in field) × (number_in field ≤ high)
in_range low high field h = at low high (number_of_field field) (unbroken (is_none (number_within low high field)) BadNumber h)
  where
    at : (low high : ℕ) (o : Option ℕ) → is_none (option_and_then (λ n. cond (nat_le low n && nat_le n high) (Some n) None) o) ≡ false → (low ≤ unwrap_or o 0) × (unwrap_or o 0 ≤ high)
    at low high None h = absurd (true≢false h)
    at low high (Some n) h = elim (cases_Bool (nat_le low n && nat_le n high)) [
      | inl e ↦ let parts = and_parts (nat_le low n) (nat_le n high) e in (leb-true low n parts.0, leb-true n high parts.1)
      | inr e ↦ let no = rw e at h in absurd (true≢false no)
    ]

pub number_lt : (codes : List (List ℕ)) (code : List ℕ) → has_code codes code ≡ true → unwrap_or (number_of codes code) 0 < length codes
number_lt codes code h =
    let lt = place_lt (bytes_eq code) codes h in
    let inside = lt-ltb (position_or_len (bytes_eq code) codes) (length codes) lt in
    rw inside lt

not_false : (b : Bool) → not b ≡ false → b ≡ true
not_false true h = refl
not_false false h = absurd (true≢false h)

-- one more record
limit_ranges : (n : NamedMarket) (doc : Document) (code : List ℕ) (row : Record) → HasRanges n doc → limit_cause code row ≡ None → HasRanges n (with_limit doc row)
limit_ranges n doc code row h right =
    let numbers = neither _ _ (neither _ _ right).1 in
    record {
      limits = all_more (λ y. y ≤ MAX_SCORE + 1) doc.limits (number_in (field_of row 2)) h.limits (in_range 0 (MAX_SCORE + 1) (field_of row 2) numbers.0).1;
      counts = all_more (λ k. k ≤ MAX_APPLICANTS) doc.counts (number_in (field_of row 3)) h.counts (in_range 0 MAX_APPLICANTS (field_of row 3) numbers.1).1;
      admitted = h.admitted;
      raises = h.raises;
    }

index_more : (is : List ℕ) (i : ℕ) (bound : ℕ → ℕ) → ((a : ℕ) → a < length is → slice_index is a ≤ bound a) → i ≤ bound (length is) → (a : ℕ) → a < length (is ++ i ∷ []) → slice_index (is ++ i ∷ []) a ≤ bound a
index_more [] i bound h low zero lt = low
index_more [] i bound h low (suc a) lt = absurd (omega (arith, lt))
index_more (j ∷ js) i bound h low zero lt = h 0 (omega arith)
index_more (j ∷ js) i bound h low (suc a) lt = index_more js i (λ b. bound (suc b)) (λ b l. h (suc b) (omega (arith, l))) low a (omega (arith, lt))

admit_ranges : (n : NamedMarket) (doc : Document) (a : ℕ) (row : Record) → HasRanges n doc → length doc.admitted ≡ a → HasRanges n (with_admit n.prog_codes (list_of n.market a) doc row)
admit_ranges n doc a row h own = record {
  limits = h.limits;
  counts = h.counts;
  admitted = index_more doc.admitted (index_of n.prog_codes (list_of n.market a) row) (λ b. length (list_of n.market b)) h.admitted
      (rw own (index_low (list_of n.market a) (number_in (field_of row 2)) (number_of n.prog_codes (field_of row 3))));
  raises = h.raises;
}

raise_ranges : (n : NamedMarket) (doc : Document) (row : Record) → length n.pool_codes ≡ length n.market.pools → HasRanges n doc → raise_cause n.pool_codes row ≡ None → HasRanges n (with_raise n.pool_codes doc row)
raise_ranges n doc row each h right =
    let parts = neither _ _ right in
    let known = not_false (has_code n.pool_codes (field_of row 1)) (unbroken (not (has_code n.pool_codes (field_of row 1))) UnknownPool parts.0) in
    let limit = in_range 1 (MAX_SCORE + 1) (field_of row 2) (neither _ _ parts.1).0 in
    let pool = number_lt n.pool_codes (field_of row 1) known in
    record {
      limits = h.limits;
      counts = h.counts;
      admitted = h.admitted;
      raises = all_more (λ r. (r.pool.0 < length n.market.pools) × (1 ≤ r.limit) × (r.limit ≤ MAX_SCORE + 1)) doc.raises _ h.raises (omega (arith, pool, each), limit.0, limit.1);
    }

closing_ranges : (n : NamedMarket) (doc : Document) (count : ℕ) (row : Record) → length n.pool_codes ≡ length n.market.pools → HasRanges n doc → closing_cause n.pool_codes count row ≡ None → HasRanges n (with_closing n.pool_codes doc row)
closing_ranges n doc count row each h right = elim (cases_Bool (is_raise row)) [
  | inl e ↦ rw e (raise_ranges n doc row each h (rw e at right))
  | inr e ↦ rw e h
]

pub ranges_more : (n : NamedMarket) (rule : Rule) (k : ℕ) (doc : Document) (row : Record) → length n.pool_codes ≡ length n.market.pools
    → (length n.market.pools ≤ k - 1 → k - 1 - length n.market.pools < length n.market.lists → length doc.admitted ≡ k - 1 - length n.market.pools)
    → HasRanges n doc → standing_cause n rule k row ≡ None → HasRanges n (with_row n k doc row)
ranges_more n rule k doc row each own h right = elim (cases_Bool (k == 0)) [
  | inl e ↦ rw e h
  | inr e ↦ elim (cases_Bool (nat_lt (k - 1) (length n.market.pools))) [
    | inl f ↦ rw (e, f) (limit_ranges n doc (get_or n.pool_codes (k - 1) []) row h (rw (e, f) at right))
    | inr f ↦ elim (cases_Bool (nat_lt (k - 1 - length n.market.pools) (length n.market.lists))) [
      | inl g ↦ rw (e, f, g) (admit_ranges n doc (k - 1 - length n.market.pools) row h (own (ltb-false (k - 1) (length n.market.pools) f) (ltb-true (k - 1 - length n.market.pools) (length n.market.lists) g)))
      | inr g ↦ rw (e, f, g) (closing_ranges n doc (k + 1) row each h (rw (e, f, g) at right))
    ]
  ]
]
