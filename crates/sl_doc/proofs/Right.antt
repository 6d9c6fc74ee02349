-- Nothing is wrong with the records of a document.
use Rattle.std.proofs.Common.{◌≡◌, ◌∙◌, ◌<◌, ◌≤◌, ◌+◌, ◌++◌, ◌-◌, ◌^◌, ◌==◌, ◌&&◌, ◌||◌, ℕ, zero, suc, Bool, true, false, not, nat_lt, nat_le, List, [], ◌∷◌, length, take, get_or, slice_index, Option, Some, None, refl, sym, ap, arith, inl, inr, length-append}
use Rattle.std.specs.Prelude.{map, slice_get}
use Rattle.std.specs.List.{list_any}
use Rattle.std.specs.Str.{bytes_eq}
use Rattle.std.proofs.lemmas.Bool.{cases_Bool, or_parts, cases_lt, lt-ltb, ltb-true, leb-true, eqb-true}
use Rattle.std.proofs.lemmas.Bool.Decides.{eqb_tells}
use Rattle.std.proofs.lemmas.List.{take-append-le, length-take-le, get_or_append_left, get_or-append-add}
use Rattle.std.proofs.lemmas.List.Folds.{list_any-append}
use Rattle.std.proofs.lemmas.Option.{slice_get_past, slice_get-get_or}
use Rattle.sl_types.specs.declared.kinds.Entry.{Entry}
use Rattle.sl_types.specs.declared.kinds.Raise.{Raise}
use Rattle.sl_types.specs.declared.kinds.Rule.{Rule}
use Rattle.sl_types.specs.declared.kinds.Rule.TheVariants.{H, L, Merit}
use Rattle.sl_types.specs.declared.kinds.TheConstants.{MAX_SCORE, MAX_APPLICANTS, MAX_PLACE}
use Rattle.sl_types.specs.Market.{list_of, pool_numbers}
use Rattle.sl_types.specs.Valid.{IsValid, applicant_numbers}
use Rattle.sl_codes.specs.Codes.{has_code}
use Rattle.sl_codes.specs.Laws.{cause_at, FirstFaultSays}
use Rattle.sl_codes.specs.Records.{Record}
use Rattle.sl_instance.specs.NamedMarket.{NamedMarket, IsNamed}
use Rattle.sl_doc.specs.Document.{Document, IsInRange}
use Rattle.sl_doc.specs.Reading.{is_end, has_end, rule_cause, limit_cause, admit_cause, raise_cause, end_cause, closing_cause, standing_cause, most_records, result_form, doc_fault}
use Rattle.sl_doc.specs.ResultText.{version_record, rule_record, limit_record, choice_record, admit_record, raise_record, end_record, limit_records, admit_records, raise_records, content_records, body_records, result_records, result_text}
use Rattle.sl_doc.proofs.Again.{index_again}
use Rattle.sl_doc.proofs.Numbers.{decimal_read, decimal_right, same_code}
use Rattle.sl_doc.proofs.Placed.{in_order}
use Rattle.sl_doc.proofs.ReadBack.{fewer_records}
use Rattle.sl_doc.proofs.Records.{limits_length, limit_at, admits_length, admit_at, raises_length, raise_at, content_length}
use Rattle.sl_doc.proofs.Sections.{rows_for, rows_grouped}

-- the records by their kinds
rule_right : (rule : Rule) → rule_cause rule (rule_record rule) ≡ None
rule_right H = refl
rule_right L = refl
rule_right Merit = refl

code_there : (codes : List (List ℕ)) (k : ℕ) → k < length codes → has_code codes (get_or codes k []) ≡ true
code_there [] k lt = absurd (omega (arith, lt))
code_there (c ∷ cs) zero lt = rw (same_code c) refl
code_there (c ∷ cs) (suc k) lt = rw (code_there cs k (omega (arith, lt))) (or_true (bytes_eq (get_or cs k []) c))
  where
    or_true : (b : Bool) → (b || true) ≡ true
    or_true true = refl
    or_true false = refl

and_false : (b : Bool) → (b && false) ≡ false
and_false true = refl
and_false false = refl

same_number : (a : ℕ) → (a == a) ≡ true
same_number a = elim (eqb_tells a a) [ inl e ↦ e.0 | inr e ↦ absurd (e.1 refl) ]

end_right : (count : ℕ) → count < 10 ^ 9 → end_cause count (end_record count) ≡ None
end_right count small =
    let read = decimal_read count small in
    let same = same_number count in
    rw (read, same) refl

module _ (n : NamedMarket) (named : IsNamed n) (ok : IsValid n.market) (doc : Document) (fit : IsInRange n doc) where
  limit_right : (P : ℕ) → P < length n.market.pools → limit_cause (get_or n.pool_codes P []) (limit_record n doc P) ≡ None
  limit_right P lt =
      let limit = decimal_right 0 (MAX_SCORE + 1) (slice_index doc.limits P) (omega arith) (fit.limits P 0 (omega (arith, lt, fit.each_limit))) (omega arith) in
      let count = decimal_right 0 MAX_APPLICANTS (slice_index doc.counts P) (omega arith) (fit.counts P 0 (omega (arith, lt, fit.each_count))) (omega arith) in
      rw (same_code (get_or n.pool_codes P []), limit, count) refl

  admit_right : (a : ℕ) → a < length n.market.lists → admit_cause n.prog_codes (get_or n.app_codes a []) (list_of n.market a) (admit_record n doc a) ≡ None
  admit_right a lt =
      let l = list_of n.market a in
      let i = slice_index doc.admitted a in
      let code = get_or n.app_codes a [] in
      let ordered = in_order n.market ok a lt in
      elim (cases_lt i (length l)) [
        | inl within ↦
            let e = get_or l i none in
            let found = slice_get-get_or l i none within in
            let place = decimal_right 0 MAX_PLACE e.place (omega arith) (ordered.low i none within) (omega arith) in
            let index = sym (ap (λ o. Rattle.sl_doc.specs.Reading.index_of n.prog_codes l (choice_record n code o)) found) ∙ index_again n named ok doc fit a lt in
            let inside = lt-ltb i (length l) within in
            ap (λ o. admit_cause n.prog_codes code l (choice_record n code o)) found ∙ rw (same_code code, place, index, inside) refl
        | inr past ↦
            let none_there = slice_get_past l i past in
            ap (λ o. admit_cause n.prog_codes code l (choice_record n code o)) none_there ∙ rw (same_code code, and_false (not (nat_lt (Rattle.sl_doc.specs.Reading.index_of n.prog_codes l (choice_record n code None)) (length l)))) refl
      ]
    where
      none : Entry
      none = record { place = 0; prog = record { 0 = 0 }; score = 0 }

  raise_right : (k : ℕ) (d : Raise) → k < length doc.raises → raise_cause n.pool_codes (raise_record n (get_or doc.raises k d)) ≡ None
  raise_right k d lt =
      let r = get_or doc.raises k d in
      let h = fit.raises k d lt in
      let low = h.0 in
      let known = code_there n.pool_codes r.pool.0 (omega (arith, low, named.each_pool)) in
      let limit = decimal_right 1 (MAX_SCORE + 1) r.limit h.1 h.2 (omega arith) in
      rw (known, limit) refl

  module _ (rule : Rule) where
    abbrev pools : ℕ
    pools = length n.market.pools

    abbrev lists : ℕ
    lists = length n.market.lists

    abbrev count : ℕ
    count = length (body_records n rule doc)

    abbrev last : List Record
    last = end_record count ∷ []

    count_is : count ≡ 2 + (pools + lists + length doc.raises)
    count_is = let all = content_length n doc in omega (arith, all)

    -- by the place of the record
    positive : (k : ℕ) → 1 ≤ k → (k == 0) ≡ false
    positive k some = elim (cases_Bool (k == 0)) [
      | inl e ↦ absurd (let is = eqb-true k 0 e in omega (arith, is, some))
      | inr e ↦ e
    ]

    not_below : (a b : ℕ) → b ≤ a → nat_lt a b ≡ false
    not_below a b le = elim (cases_Bool (nat_lt a b)) [
      | inl e ↦ absurd (let lt = ltb-true a b e in omega (arith, lt, le))
      | inr e ↦ e
    ]

    at_limit : (k : ℕ) (row : Record) → 1 ≤ k → k - 1 < pools → limit_cause (get_or n.pool_codes (k - 1) []) row ≡ None → standing_cause n rule k row ≡ None
    at_limit k row some lt h =
        let later = positive k some in
        let inside = lt-ltb (k - 1) pools lt in
        rw (later, inside) h

    at_admit : (k : ℕ) (row : Record) → 1 + pools ≤ k → k - 1 - pools < lists → admit_cause n.prog_codes (get_or n.app_codes (k - 1 - pools) []) (list_of n.market (k - 1 - pools)) row ≡ None → standing_cause n rule k row ≡ None
    at_admit k row some lt h =
        let later = positive k (omega (arith, some)) in
        let past = not_below (k - 1) pools (omega (arith, some)) in
        let inside = lt-ltb (k - 1 - pools) lists lt in
        rw (later, past, inside) h

    at_closing : (k : ℕ) (row : Record) → 1 + pools + lists ≤ k → closing_cause n.pool_codes (k + 1) row ≡ None → standing_cause n rule k row ≡ None
    at_closing k row some h =
        let later = positive k (omega (arith, some)) in
        let past = not_below (k - 1) pools (omega (arith, some)) in
        let after = not_below (k - 1 - pools) lists (omega (arith, some)) in
        rw (later, past, after) h

    -- the record at a place
    abbrev rows : List Record
    rows = rows_for n rule doc

    rows_length : length rows ≡ 2 + (pools + lists + length doc.raises)
    rows_length =
        let limits = length-append (limit_records n doc) (admit_records n doc ++ (raise_records n doc ++ last)) in
        let admits = length-append (admit_records n doc) (raise_records n doc ++ last) in
        let raises = length-append (raise_records n doc) last in
        omega (arith, limits, admits, raises, limits_length n doc, admits_length n doc, raises_length n doc.raises)

    limit_row : (j : ℕ) → j < pools → get_or rows (1 + j) [] ≡ limit_record n doc j
    limit_row j lt =
        let e : 1 + j ≡ suc j = omega arith in
        rw e (get_or_append_left (limit_records n doc) (admit_records n doc ++ (raise_records n doc ++ last)) [] j (omega (arith, lt, limits_length n doc)) ∙ limit_at n doc j lt)

    after_limits : (j : ℕ) → get_or rows (1 + pools + j) [] ≡ get_or (admit_records n doc ++ (raise_records n doc ++ last)) j []
    after_limits j =
        let e : 1 + pools + j ≡ suc (length (limit_records n doc) + j) = omega (arith, limits_length n doc) in
        rw e (get_or-append-add (limit_records n doc) (admit_records n doc ++ (raise_records n doc ++ last)) j [])

    admit_row : (j : ℕ) → j < lists → get_or rows (1 + pools + j) [] ≡ admit_record n doc j
    admit_row j lt = after_limits j ∙ get_or_append_left (admit_records n doc) (raise_records n doc ++ last) [] j (omega (arith, lt, admits_length n doc)) ∙ admit_at n doc j lt

    after_admits : (j : ℕ) → get_or rows (1 + pools + lists + j) [] ≡ get_or (raise_records n doc ++ last) j []
    after_admits j =
        let e : 1 + pools + lists + j ≡ 1 + pools + (length (admit_records n doc) + j) = omega (arith, admits_length n doc) in
        ap (λ i. get_or rows i []) e ∙ after_limits (length (admit_records n doc) + j) ∙ get_or-append-add (admit_records n doc) (raise_records n doc ++ last) j []

    raise_row : (j : ℕ) (d : Raise) → j < length doc.raises → get_or rows (1 + pools + lists + j) [] ≡ raise_record n (get_or doc.raises j d)
    raise_row j d lt = after_admits j ∙ get_or_append_left (raise_records n doc) last [] j (omega (arith, lt, raises_length n doc.raises)) ∙ raise_at n doc.raises j d lt

    end_row : get_or rows (1 + pools + lists + length doc.raises) [] ≡ end_record count
    end_row =
        let e : length doc.raises ≡ length (raise_records n doc) + 0 = omega (arith, raises_length n doc.raises) in
        after_admits (length doc.raises) ∙ ap (λ i. get_or (raise_records n doc ++ last) i []) e ∙ get_or-append-add (raise_records n doc) last 0 []

    -- each has four fields, and stands where it must
    IsRight : ℕ → Record → Type 0
    IsRight k row = (length row ≡ 4) × (standing_cause n rule k row ≡ None)

    four_fields : (code : List ℕ) (o : Option Entry) → length (choice_record n code o) ≡ 4
    four_fields code None = refl
    four_fields code (Some e) = refl

    right_limit : (j : ℕ) → j < pools → IsRight (1 + j) (limit_record n doc j)
    unfolding IsRight
    right_limit j lt =
        let e : 1 + j - 1 ≡ j = omega arith in
        (refl, at_limit (1 + j) (limit_record n doc j) (omega arith) (omega (arith, lt)) (rw e (limit_right j lt)))

    right_admit : (j : ℕ) → j < lists → IsRight (1 + pools + j) (admit_record n doc j)
    unfolding IsRight
    right_admit j lt =
        let e : 1 + pools + j - 1 - pools ≡ j = omega arith in
        (four_fields (get_or n.app_codes j []) (slice_get (list_of n.market j) (slice_index doc.admitted j)), at_admit (1 + pools + j) (admit_record n doc j) (omega arith) (omega (arith, lt)) (rw e (admit_right j lt)))

    right_raise : (j : ℕ) (d : Raise) → j < length doc.raises → IsRight (1 + pools + lists + j) (raise_record n (get_or doc.raises j d))
    unfolding IsRight
    right_raise j d lt = (refl, at_closing (1 + pools + lists + j) (raise_record n (get_or doc.raises j d)) (omega arith) (raise_right j d lt))

    right_end : count < 10 ^ 9 → IsRight (1 + pools + lists + length doc.raises) (end_record count)
    unfolding IsRight
    right_end small =
        let e : 1 + pools + lists + length doc.raises + 1 ≡ count = omega (arith, count_is) in
        (refl, at_closing (1 + pools + lists + length doc.raises) (end_record count) (omega arith) (rw e (end_right count small)))

    right_rule : IsRight 0 (rule_record rule)
    unfolding IsRight
    right_rule = (refl, rule_right rule)

    none_raise : Raise
    none_raise = record { pool = record { 0 = 0 }; limit = 0 }

    right_row : count < 10 ^ 9 → (k : ℕ) → k < length rows → IsRight k (get_or rows k [])
    right_row small zero lt = right_rule
    right_row small (suc i) lt = elim (cases_lt i pools) [
      | inl a ↦ let e : suc i ≡ 1 + i = omega arith in rw e (rw (limit_row i a) (right_limit i a))
      | inr a ↦ let j = i - pools in elim (cases_lt j lists) [
        | inl b ↦ let e : suc i ≡ 1 + pools + j = omega (arith, a) in rw e (rw (admit_row j b) (right_admit j b))
        | inr b ↦ let m = j - lists in elim (cases_lt m (length doc.raises)) [
          | inl d ↦ let e : suc i ≡ 1 + pools + lists + m = omega (arith, a, b) in rw e (rw (raise_row m none_raise d) (right_raise m none_raise d))
          | inr d ↦ let e : suc i ≡ 1 + pools + lists + length doc.raises = omega (arith, a, b, d, lt, rows_length) in rw e (rw end_row (right_end small))
        ]
      ]
    ]

    -- the end stands last alone
    none_mapped : {A : Type 0} (f : A → Record) (xs : List A) → ((x : A) → is_end (f x) ≡ false) → list_any is_end (map f xs) ≡ false
    none_mapped f [] h = refl
    none_mapped f (x ∷ xs) h = rw (h x, none_mapped f xs h) refl

    no_end_choice : (code : List ℕ) (o : Option Entry) → is_end (choice_record n code o) ≡ false
    no_end_choice code None = refl
    no_end_choice code (Some e) = refl

    no_end : has_end (rule_record rule ∷ content_records n doc) ≡ false
    no_end =
        let limits = none_mapped (limit_record n doc) (pool_numbers n.market) (λ P. refl) in
        let admits = none_mapped (admit_record n doc) (applicant_numbers n.market) (λ a. no_end_choice (get_or n.app_codes a []) (slice_get (list_of n.market a) (slice_index doc.admitted a))) in
        let raises = none_mapped (raise_record n) doc.raises (λ r. refl) in
        rw (list_any-append is_end (limit_records n doc) (admit_records n doc ++ raise_records n doc), list_any-append is_end (admit_records n doc) (raise_records n doc), limits, admits, raises) refl

    any_take : {A : Type 0} (p : A → Bool) (xs : List A) (k : ℕ) → list_any p xs ≡ false → list_any p (take k xs) ≡ false
    any_take p xs zero h = refl
    any_take p [] (suc k) h = refl
    any_take p (x ∷ xs) (suc k) h =
        let parts = or_parts (p x) (list_any p xs) h in
        rw (parts.0, any_take p xs k parts.1) refl

    front_length : length (rule_record rule ∷ content_records n doc) ≡ 1 + (pools + lists + length doc.raises)
    front_length = let all = content_length n doc in omega (arith, all)

    open_before : (k : ℕ) → k < length rows → has_end (take k rows) ≡ false
    open_before k lt =
        let front = rule_record rule ∷ content_records n doc in
        ap (λ rs. has_end (take k rs)) (sym (rows_grouped n rule doc)) ∙ ap has_end (take-append-le k front last (omega (arith, lt, rows_length, front_length))) ∙ any_take is_end front k no_end

    closed : has_end rows ≡ true
    closed =
        let front = rule_record rule ∷ content_records n doc in
        ap has_end (sym (rows_grouped n rule doc)) ∙ list_any-append is_end front last ∙ rw no_end refl

    right_at : length rows ≤ 2 ^ 28 → (k : ℕ) → k < length rows → cause_at (result_form n rule) rows k ≡ None
    unfolding IsRight
    right_at few k lt =
        let right = right_row (omega (arith, few, rows_length, count_is)) k lt in
        let size = length-take-le k rows (omega (arith, lt)) in
        let room = not_above most_records k (omega (arith, few, lt)) in
        let before = open_before k lt in
        rw (right.0, size, room, before) right.1
      where
        not_above : (m k : ℕ) → k < m → nat_le m k ≡ false
        not_above m k less = elim (cases_Bool (nat_le m k)) [
          | inl e ↦ absurd (let le = leb-true m k e in omega (arith, le, less))
          | inr e ↦ e
        ]

    pub right_again : FirstFaultSays → length (result_text n rule doc) ≤ 2 ^ 28 → doc_fault n rule (result_records n rule doc) ≡ None
    right_again says short =
        let all = fewer_records (result_records n rule doc) in
        let grouped = ap length (rows_grouped n rule doc) in
        let none = says.none (result_form n rule) rows (right_at (omega (arith, all, grouped, short))) in
        ap (λ rs. doc_fault n rule (version_record ∷ rs)) (rows_grouped n rule doc) ∙ rw (none, closed) refl
