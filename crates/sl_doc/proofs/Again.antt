-- The records of a document hold it.
use Rattle.std.proofs.Common.{◌≡◌, ◌∙◌, ◌<◌, ◌≤◌, ◌+◌, ℕ, suc, List, [], ◌∷◌, length, get_or, slice_index, refl, sym, ap, arith, inl, inr}
use Rattle.std.specs.Prelude.{map, zip, All}
use Rattle.std.proofs.lemmas.Bool.{cases_lt}
use Rattle.std.proofs.lemmas.Option.{slice_get_past, slice_get-get_or}
use Rattle.sl_types.specs.declared.kinds.Entry.{Entry}
use Rattle.sl_types.specs.declared.kinds.Raise.{Raise}
use Rattle.sl_types.specs.declared.kinds.Rule.{Rule}
use Rattle.sl_types.specs.declared.kinds.TheConstants.{MAX_SCORE}
use Rattle.sl_types.specs.Market.{list_of}
use Rattle.sl_types.specs.Valid.{IsValid}
use Rattle.sl_codes.specs.Fields.{number_in}
use Rattle.sl_codes.specs.Codes.{number_of}
use Rattle.sl_codes.specs.Records.{Record, field_of}
use Rattle.sl_instance.specs.NamedMarket.{NamedMarket, IsNamed}
use Rattle.sl_doc.specs.Document.{Document, IsInRange}
use Rattle.sl_doc.specs.Reading.{index_of, raise_of, document_of}
use Rattle.sl_doc.specs.ResultText.{choice_record, admit_record, raise_record, limit_records, admit_records}
use Rattle.sl_doc.proofs.Numbers.{decimal_in, code_found}
use Rattle.sl_doc.proofs.Placed.{in_order, index_found, no_index}
use Rattle.sl_doc.proofs.Records.{limits_length, limit_at, admits_length, admit_at}
use Rattle.sl_doc.proofs.Sections.{rows_for, pools_part, applicants_part, raises_part}

mapped : (f : Record → ℕ) (rows : List Record) (is : List ℕ) → length rows ≡ length is → ((k : ℕ) → k < length is → f (get_or rows k []) ≡ slice_index is k) → map f rows ≡ is
mapped f [] [] e h = refl
mapped f [] (i ∷ is) e h = absurd (omega (arith, e))
mapped f (r ∷ rs) [] e h = absurd (omega (arith, e))
mapped f (r ∷ rs) (i ∷ is) e h =
    let here : f r ≡ i = h 0 (omega arith) in
    rw (here, mapped f rs is (omega (arith, e)) (λ k lt. h (suc k) (omega (arith, lt)))) refl

side_by_side : (f : List Entry → Record → ℕ) (lists : List (List Entry)) (rows : List Record) (is : List ℕ) → length rows ≡ length is → length lists ≡ length is
    → ((k : ℕ) → k < length is → f (get_or lists k []) (get_or rows k []) ≡ slice_index is k) → map (λ p. f p.0 p.1) (zip lists rows) ≡ is
side_by_side f [] [] [] e g h = refl
side_by_side f [] (r ∷ rs) [] e g h = absurd (omega (arith, e))
side_by_side f (l ∷ ls) rows [] e g h = absurd (omega (arith, g))
side_by_side f [] rows (i ∷ is) e g h = absurd (omega (arith, g))
side_by_side f (l ∷ ls) [] (i ∷ is) e g h = absurd (omega (arith, e))
side_by_side f (l ∷ ls) (r ∷ rs) (i ∷ is) e g h =
    let here : f l r ≡ i = h 0 (omega arith) in
    rw (here, side_by_side f ls rs is (omega (arith, e)) (omega (arith, g)) (λ k lt. h (suc k) (omega (arith, lt)))) refl

module _ (n : NamedMarket) (named : IsNamed n) (ok : IsValid n.market) (doc : Document) (fit : IsInRange n doc) where
  limits_again : map (λ row. number_in (field_of row 2)) (limit_records n doc) ≡ doc.limits
  limits_again = mapped (λ row. number_in (field_of row 2)) (limit_records n doc) doc.limits (limits_length n doc ∙ sym fit.each_limit)
      (λ k lt. ap (λ row. number_in (field_of row 2)) (limit_at n doc k (omega (arith, lt, fit.each_limit)))
      ∙ decimal_in (slice_index doc.limits k) (let low = fit.limits k 0 lt in omega (arith, low)))

  counts_again : map (λ row. number_in (field_of row 3)) (limit_records n doc) ≡ doc.counts
  counts_again = mapped (λ row. number_in (field_of row 3)) (limit_records n doc) doc.counts (limits_length n doc ∙ sym fit.each_count)
      (λ k lt. ap (λ row. number_in (field_of row 3)) (limit_at n doc k (omega (arith, lt, fit.each_count)))
      ∙ decimal_in (slice_index doc.counts k) (let low = fit.counts k 0 lt in omega (arith, low)))

  -- an applicant's record names their admitted choice
  pub index_again : (a : ℕ) → a < length n.market.lists → index_of n.prog_codes (list_of n.market a) (admit_record n doc a) ≡ slice_index doc.admitted a
  index_again a lt =
      let l = list_of n.market a in
      let i = slice_index doc.admitted a in
      let ordered = in_order n.market ok a lt in
      elim (cases_lt i (length l)) [
        | inl within ↦
            let e = get_or l i none in
            let found = slice_get-get_or l i none within in
            let small = ordered.low i none within in
            let place = decimal_in e.place (omega (arith, small)) in
            let prog = code_found n.prog_codes e.prog.0 named.progs.once (let known = ordered.named i none within in omega (arith, known, named.each_prog)) in
            ap (λ o. index_of n.prog_codes l (choice_record n (get_or n.app_codes a []) o)) found ∙ rw (place, prog) (index_found n.market l ordered i none within)
        | inr past ↦
            let all = fit.admitted a lt in
            let none_there = slice_get_past l i past in
            ap (λ o. index_of n.prog_codes l (choice_record n (get_or n.app_codes a []) o)) none_there ∙ no_index n.market l ordered (number_of n.prog_codes []) ∙ omega (arith, all, past)
      ]
    where
      none : Entry
      none = record { place = 0; prog = record { 0 = 0 }; score = 0 }

  admitted_again : map (λ p. index_of n.prog_codes p.0 p.1) (zip n.market.lists (admit_records n doc)) ≡ doc.admitted
  admitted_again = side_by_side (λ choices row. index_of n.prog_codes choices row) n.market.lists (admit_records n doc) doc.admitted (admits_length n doc ∙ sym fit.each_admission) (sym fit.each_admission)
      (λ k lt. let inside : k < length n.market.lists = omega (arith, lt, fit.each_admission) in
      ap (λ row. index_of n.prog_codes (list_of n.market k) row) (admit_at n doc k inside) ∙ index_again k inside)

  raise_again : (r : Raise) → (r.pool.0 < length n.market.pools) × (1 ≤ r.limit) × (r.limit ≤ MAX_SCORE + 1) → raise_of n.pool_codes (raise_record n r) ≡ r
  raise_again r h =
      let low = h.0 in
      let high = h.2 in
      let found = code_found n.pool_codes r.pool.0 named.pools.once (omega (arith, low, named.each_pool)) in
      let limit = decimal_in r.limit (omega (arith, high)) in
      rw (found, limit) refl

  raises_again : (rs : List Raise) → All (λ r. (r.pool.0 < length n.market.pools) × (1 ≤ r.limit) × (r.limit ≤ MAX_SCORE + 1)) rs → map (raise_of n.pool_codes) (map (raise_record n) rs) ≡ rs
  raises_again [] h = refl
  raises_again (r ∷ rs) h = rw (raise_again r (h 0 r (omega arith)), raises_again rs (λ k d lt. h (suc k) d (omega (arith, lt)))) refl

  pub document_again : (rule : Rule) → document_of n (rows_for n rule doc) ≡ doc
  document_again rule =
      rw (pools_part n rule doc, applicants_part n rule doc, raises_part n rule doc, limits_again, counts_again, admitted_again, raises_again doc.raises fit.raises) refl
