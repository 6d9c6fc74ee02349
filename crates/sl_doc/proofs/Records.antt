-- The records of a document by number.
use Rattle.std.proofs.Common.{◌≡◌, ◌∙◌, ◌<◌, ◌+◌, ◌++◌, ℕ, zero, suc, List, [], ◌∷◌, length, map, get_or, refl, arith, zero-add, length-append}
use Rattle.std.proofs.lemmas.List.FromFn.{length-map-range_with_len, get_or-map-range_with_len}
use Rattle.std.proofs.lemmas.List.{length-map}
use Rattle.sl_types.specs.declared.kinds.Raise.{Raise}
use Rattle.sl_instance.specs.NamedMarket.{NamedMarket}
use Rattle.sl_doc.specs.Document.{Document}
use Rattle.sl_doc.specs.ResultText.{limit_record, admit_record, raise_record, limit_records, admit_records, raise_records, content_records}

module _ (n : NamedMarket) (doc : Document) where
  pub limits_length : length (limit_records n doc) ≡ length n.market.pools
  limits_length = length-map-range_with_len (limit_record n doc) 0 (length n.market.pools)

  pub limit_at : (k : ℕ) → k < length n.market.pools → get_or (limit_records n doc) k [] ≡ limit_record n doc k
  limit_at k lt = get_or-map-range_with_len (limit_record n doc) 0 (length n.market.pools) k k [] lt (zero-add k)

  pub admits_length : length (admit_records n doc) ≡ length n.market.lists
  admits_length = length-map-range_with_len (admit_record n doc) 0 (length n.market.lists)

  pub admit_at : (k : ℕ) → k < length n.market.lists → get_or (admit_records n doc) k [] ≡ admit_record n doc k
  admit_at k lt = get_or-map-range_with_len (admit_record n doc) 0 (length n.market.lists) k k [] lt (zero-add k)

pub raises_length : (n : NamedMarket) (raises : List Raise) → length (map (raise_record n) raises) ≡ length raises
raises_length n raises = length-map raises (raise_record n)

pub raise_at : (n : NamedMarket) (raises : List Raise) (k : ℕ) (d : Raise) → k < length raises → get_or (map (raise_record n) raises) k [] ≡ raise_record n (get_or raises k d)
raise_at n [] k d lt = absurd (omega (arith, lt))
raise_at n (r ∷ rs) zero d lt = refl
raise_at n (r ∷ rs) (suc k) d lt = raise_at n rs k d (omega (arith, lt))

-- how many there are
pub content_length : (n : NamedMarket) (doc : Document) → length (content_records n doc) ≡ length n.market.pools + length n.market.lists + length doc.raises
content_length n doc =
    length-append (limit_records n doc) (admit_records n doc ++ raise_records n doc)
    ∙ (let both = length-append (admit_records n doc) (raise_records n doc) in omega (arith, both, limits_length n doc, admits_length n doc, raises_length n doc.raises))
