-- What records hold, as one more comes.
use Rattle.std.proofs.Common.{◌≡◌, ◌∙◌, ◌<◌, ◌≤◌, ◌+◌, ◌++◌, ◌-◌, ◌==◌, ℕ, zero, suc, nat_lt, List, [], ◌∷◌, length, take, drop, get_or, refl, ap, arith, inl, inr}
use Rattle.std.specs.Prelude.{zip, filter}
use Rattle.std.proofs.lemmas.Bool.{cases_Bool, eqb-true, eqb-false, ltb-true, ltb-false}
use Rattle.std.proofs.lemmas.List.{map-append, take_all}
use Rattle.std.proofs.lemmas.List.Elements.{filter-append}
use Rattle.std.proofs.Math.Seq.{drop-nil}
use Rattle.sl_types.specs.declared.kinds.Entry.{Entry}
use Rattle.sl_types.specs.Market.{list_of}
use Rattle.sl_codes.specs.Fields.{number_in}
use Rattle.sl_codes.specs.Records.{Record, field_of}
use Rattle.sl_instance.specs.NamedMarket.{NamedMarket}
use Rattle.sl_doc.specs.Drafts.{no_document, with_row, with_limit, with_admit, with_closing}
use Rattle.sl_doc.specs.Reading.{is_raise, index_of, raise_of, pool_rows, applicant_rows, raise_rows, document_of}
use Rattle.sl_doc.proofs.Windows.{part_past, part_more, part_before, part_length, rest_before, rest_more, zip_none, zip_more}

-- a document of lists that are the same
same_document : (n : NamedMarket) (read more : List Record) → pool_rows n more ≡ pool_rows n read → applicant_rows n more ≡ applicant_rows n read → raise_rows n more ≡ raise_rows n read
    → document_of n more ≡ document_of n read
same_document n read more p a r = rw (p, a, r) refl

module _ (n : NamedMarket) (read : List Record) (row : Record) where
  abbrev pools : ℕ
  pools = length n.market.pools

  abbrev lists : ℕ
  lists = length n.market.lists

  abbrev k : ℕ
  k = length read

  raises_before : k < 1 + pools + lists → raise_rows n (read ++ row ∷ []) ≡ raise_rows n read
  raises_before lt = ap (filter is_raise) (rest_before read row (1 + pools + lists) lt)

  -- the first record
  first : k ≡ 0 → document_of n (read ++ row ∷ []) ≡ document_of n read
  first none = same_document n read (read ++ row ∷ [])
      (part_before read row 1 pools (omega (arith, none)))
      (part_before read row (1 + pools) lists (omega (arith, none)))
      (raises_before (omega (arith, none)))

  -- one of a pool
  limit : 1 ≤ k → k - 1 < pools → document_of n (read ++ row ∷ []) ≡ with_limit (document_of n read) row
  limit some lt =
      let rows = part_more read row 1 pools some (omega (arith, lt)) in
      let others = part_before read row (1 + pools) lists (omega (arith, lt)) in
      let raises = raises_before (omega (arith, lt)) in
      rw (rows, others, raises, map-append (λ r. number_in (field_of r 2)) (pool_rows n read) (row ∷ []), map-append (λ r. number_in (field_of r 3)) (pool_rows n read) (row ∷ [])) refl

  -- one of an applicant
  admit : 1 + pools ≤ k → k - 1 - pools < lists → document_of n (read ++ row ∷ []) ≡ with_admit n.prog_codes (list_of n.market (k - 1 - pools)) (document_of n read) row
  admit some lt =
      let limits = part_past read row 1 pools some in
      let rows = part_more read row (1 + pools) lists some (omega (arith, some, lt)) in
      let raises = raises_before (omega (arith, some, lt)) in
      let own : length (applicant_rows n read) ≡ k - 1 - pools = part_length read (1 + pools) lists ∙ omega (arith, some, lt) in
      let side = zip_more n.market.lists (applicant_rows n read) row [] (omega (arith, own, lt)) in
      rw (limits, rows, raises, side, map-append (λ (p : List Entry × Record). index_of n.prog_codes p.0 p.1) (zip n.market.lists (applicant_rows n read)) ((get_or n.market.lists (length (applicant_rows n read)) [], row) ∷ []), own) refl

  -- a raise or the end
  closing : 1 + pools + lists ≤ k → document_of n (read ++ row ∷ []) ≡ with_closing n.pool_codes (document_of n read) row
  closing some =
      let limits = part_past read row 1 pools (omega (arith, some)) in
      let admits = part_past read row (1 + pools) lists some in
      let rest = rest_more read row (1 + pools + lists) some in
      let all = filter-append is_raise (drop (1 + pools + lists) read) (row ∷ []) in
      elim (cases_Bool (is_raise row)) [
        | inl e ↦ rw (limits, admits, rest, all, e, map-append (raise_of n.pool_codes) (raise_rows n read) (row ∷ [])) refl
        | inr e ↦ rw (limits, admits, rest, all, e, append_none (raise_rows n read)) refl
      ]
    where
      append_none : (rows : List Record) → rows ++ [] ≡ rows
      append_none [] = refl
      append_none (r ∷ rs) = rw (append_none rs) refl

  pub document_more : document_of n (read ++ row ∷ []) ≡ with_row n k (document_of n read) row
  document_more = elim (cases_Bool (k == 0)) [
    | inl e ↦ rw e (first (eqb-true k 0 e))
    | inr e ↦ elim (cases_Bool (nat_lt (k - 1) pools)) [
      | inl f ↦ let some = eqb-false k 0 e in rw (e, f) (limit (positive k some) (ltb-true (k - 1) pools f))
      | inr f ↦ let past = ltb-false (k - 1) pools f in let some = positive k (eqb-false k 0 e) in elim (cases_Bool (nat_lt (k - 1 - pools) lists)) [
        | inl g ↦ rw (e, f, g) (admit (omega (arith, past, some)) (ltb-true (k - 1 - pools) lists g))
        | inr g ↦ let last = ltb-false (k - 1 - pools) lists g in rw (e, f, g) (closing (omega (arith, past, some, last)))
      ]
    ]
  ]
    where
      positive : (m : ℕ) → (m ≡ 0 → ⊥) → 1 ≤ m
      positive zero h = absurd (h refl)
      positive (suc m) h = omega arith

-- nothing was read
pub document_none : (n : NamedMarket) → document_of n [] ≡ no_document
document_none n =
    let limits : pool_rows n [] ≡ [] = take_all (length n.market.pools) [] (omega arith) in
    let admits : applicant_rows n [] ≡ [] = ap (take (length n.market.lists)) (drop-nil {A = Record} (1 + length n.market.pools)) ∙ take_all (length n.market.lists) [] (omega arith) in
    let raises : raise_rows n [] ≡ [] = ap (filter is_raise) (drop-nil {A = Record} (1 + length n.market.pools + length n.market.lists)) in
    rw (limits, admits, raises, zip_none {A = List Entry} {B = Record} n.market.lists) refl
