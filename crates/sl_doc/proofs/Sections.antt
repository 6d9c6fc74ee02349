-- The parts of the records of a document.
use Rattle.std.proofs.Common.{◌≡◌, ◌∙◌, ◌+◌, ◌++◌, ℕ, zero, suc, List, [], ◌∷◌, length, take, drop, refl, sym, ap, arith, append_assoc, append-nil}
use Rattle.std.specs.Prelude.{filter, map}
use Rattle.std.proofs.Math.Seq.{take-append_seam, drop-append_seam}
use Rattle.std.proofs.lemmas.List.Elements.{filter-append}
use Rattle.sl_codes.specs.Records.{Record}
use Rattle.sl_types.specs.declared.kinds.Raise.{Raise}
use Rattle.sl_types.specs.declared.kinds.Rule.{Rule}
use Rattle.sl_instance.specs.NamedMarket.{NamedMarket}
use Rattle.sl_doc.specs.Document.{Document}
use Rattle.sl_doc.specs.Reading.{is_raise, pool_rows, applicant_rows, raise_rows}
use Rattle.sl_doc.specs.ResultText.{rule_record, raise_record, end_record, limit_records, admit_records, raise_records, content_records, body_records}
use Rattle.sl_doc.proofs.Records.{limits_length, admits_length}

-- the records after the header
abbrev pub rows_for : NamedMarket → Rule → Document → List Record
rows_for n rule doc = rule_record rule ∷ (limit_records n doc ++ (admit_records n doc ++ (raise_records n doc ++ end_record (length (body_records n rule doc)) ∷ [])))

pub rows_grouped : (n : NamedMarket) (rule : Rule) (doc : Document) → rule_record rule ∷ (content_records n doc ++ end_record (length (body_records n rule doc)) ∷ []) ≡ rows_for n rule doc
rows_grouped n rule doc =
    let last = end_record (length (body_records n rule doc)) ∷ [] in
    ap (λ rows. rule_record rule ∷ rows) (append_assoc (limit_records n doc) (admit_records n doc ++ raise_records n doc) last ∙ ap (λ rows. limit_records n doc ++ rows) (append_assoc (admit_records n doc) (raise_records n doc) last))

seam_take : {A : Type 0} (xs ys : List A) (m : ℕ) → length xs ≡ m → take m (xs ++ ys) ≡ xs
seam_take xs ys m e = rw (sym e) (take-append_seam xs ys)

seam_drop : {A : Type 0} (xs ys : List A) (m : ℕ) → length xs ≡ m → drop m (xs ++ ys) ≡ ys
seam_drop xs ys m e = rw (sym e) (drop-append_seam xs ys)

drop_both : {A : Type 0} (xs : List A) (a b : ℕ) → drop (a + b) xs ≡ drop b (drop a xs)
drop_both xs zero b = let e : 0 + b ≡ b = omega arith in rw e refl
drop_both [] (suc a) b = drop_nil (suc a + b) ∙ sym (drop_nil b)
  where
    drop_nil : {A : Type 0} (m : ℕ) → drop {A = A} m [] ≡ []
    drop_nil zero = refl
    drop_nil (suc m) = refl
drop_both (x ∷ xs) (suc a) b = let e : suc a + b ≡ suc (a + b) = omega arith in rw e (drop_both xs a b)

all_raises : (n : NamedMarket) (raises : List Raise) → filter is_raise (map (raise_record n) raises) ≡ map (raise_record n) raises
all_raises n [] = refl
all_raises n (r ∷ rs) = ap (λ rows. raise_record n r ∷ rows) (all_raises n rs)

module _ (n : NamedMarket) (rule : Rule) (doc : Document) where
  abbrev last : List Record
  last = end_record (length (body_records n rule doc)) ∷ []

  pub pools_part : pool_rows n (rows_for n rule doc) ≡ limit_records n doc
  pools_part = seam_take (limit_records n doc) (admit_records n doc ++ (raise_records n doc ++ last)) (length n.market.pools) (limits_length n doc)

  after_pools : drop (1 + length n.market.pools) (rows_for n rule doc) ≡ admit_records n doc ++ (raise_records n doc ++ last)
  after_pools = drop_both (rows_for n rule doc) 1 (length n.market.pools) ∙ seam_drop (limit_records n doc) (admit_records n doc ++ (raise_records n doc ++ last)) (length n.market.pools) (limits_length n doc)

  pub applicants_part : applicant_rows n (rows_for n rule doc) ≡ admit_records n doc
  applicants_part = ap (take (length n.market.lists)) after_pools ∙ seam_take (admit_records n doc) (raise_records n doc ++ last) (length n.market.lists) (admits_length n doc)

  after_applicants : drop (1 + length n.market.pools + length n.market.lists) (rows_for n rule doc) ≡ raise_records n doc ++ last
  after_applicants =
      drop_both (rows_for n rule doc) (1 + length n.market.pools) (length n.market.lists) ∙ ap (drop (length n.market.lists)) after_pools
      ∙ seam_drop (admit_records n doc) (raise_records n doc ++ last) (length n.market.lists) (admits_length n doc)

  pub raises_part : raise_rows n (rows_for n rule doc) ≡ raise_records n doc
  raises_part =
      ap (filter is_raise) after_applicants ∙ filter-append is_raise (raise_records n doc) last
      ∙ ap (λ rows. rows ++ filter is_raise last) (all_raises n doc.raises) ∙ append-nil (raise_records n doc)
