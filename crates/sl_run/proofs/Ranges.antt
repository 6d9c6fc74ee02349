-- The numbers of a result are in their ranges.
use Rattle.std.proofs.Common.{◌≡◌, ◌∙◌, ◌+◌, ◌^◌, ◌<◌, ◌≤◌, drop, ℕ, zero, suc, List, [], ◌∷◌, length, map, get_or, slice_index, All, refl, ap, subst, inl, inr, arith}
use Rattle.std.proofs.lemmas.Bool.{cases_Bool}
use Rattle.std.specs.Prelude.{Bool, true, false, cond, filter, max, nat_eq}
use Rattle.std.specs.List.{range_with_len, position_or_len}
use Rattle.std.proofs.lemmas.List.{length-map}
use Rattle.std.proofs.lemmas.List.Sums.{prefix_len-le-length}
use Rattle.std.proofs.lemmas.List.FromFn.{length-map-range_with_len, get_or-map-range_with_len}
use Rattle.sl_types.specs.declared.kinds.Entry.{Entry}
use Rattle.sl_types.specs.declared.kinds.Raise.{Raise}
use Rattle.sl_types.specs.declared.kinds.TheConstants.{MAX_SCORE, MAX_APPLICANTS}
use Rattle.sl_types.specs.Market.{Market, chain_of, list_of}
use Rattle.sl_types.specs.WellFormed.{IsWellFormed}
use Rattle.sl_laws.specs.Limits.{Limits, greatest_of, effective_limit, is_eligible, is_admitted_in, count_in}
use Rattle.sl_laws.specs.Stable.{IsJustified}
use Rattle.sl_laws.specs.Raises.{zeros, after_raise, after_raises, limits_after, EachRaise}
use Rattle.sl_laws.proofs.Top.{justified_has_top}
use Rattle.sl_instance.specs.NamedMarket.{NamedMarket}
use Rattle.sl_codes.specs.Records.{records_of, rows_of}
use Rattle.sl_doc.specs.Document.{Document, IsInRange}
use Rattle.sl_doc.specs.Reading.{document_of, is_raise, raise_of, raise_rows}
use Rattle.sl_doc.proofs.Fewer.{few_records}
use Rattle.sl_run.specs.Result.{IsResultOf}

-- the index of the admitted choice is at most the length of the list
index_low : (market : Market) (t : Limits) (choices : List Entry) → position_or_len (is_eligible market t) choices ≤ length choices
index_low market t choices = prefix_len-le-length _ choices

pub at_map : (g : List Entry → ℕ) (lists : List (List Entry)) (k d : ℕ) → k < length lists → get_or (map g lists) k d ≡ g (get_or lists k [])
at_map g [] k d h = absurd (omega (arith, h))
at_map g (l ∷ ls) zero d h = refl
at_map g (l ∷ ls) (suc k) d h = at_map g ls k d (omega (arith, h))

-- limits of which none is above the greatest
abbrev AreLow : Limits → Type 0
AreLow t = (P : ℕ) → t P ≤ MAX_SCORE + 1

greatest_low : (t : Limits) (Ps : List ℕ) → AreLow t → greatest_of t Ps ≤ MAX_SCORE + 1
greatest_low t [] low = omega arith
greatest_low t (P ∷ Ps) low = let here = low P in let rest = greatest_low t Ps low in omega (arith, here, rest)

raise_low : (t : Limits) (r : Raise) → AreLow t → r.limit ≤ MAX_SCORE + 1 → AreLow (after_raise t r)
raise_low t r low here P = at (nat_eq P r.pool.0) P
  where
    at : (b : Bool) (P : ℕ) → cond b (max (t r.pool.0) r.limit) (t P) ≤ MAX_SCORE + 1
    at true P = let own = low r.pool.0 in omega (arith, own, here)
    at false P = low P

-- what each raise of a list that replays is
abbrev MayReplay : Market → Limits → Raise → Type 0
MayReplay market t r = (effective_limit market t r.pool.0 < r.limit) × IsJustified market t r.pool.0 r.limit

raises_low : (market : Market) → IsWellFormed market → (t : Limits) (c : List Raise) → AreLow t → EachRaise market (MayReplay market) t c → AreLow (after_raises t c)
raises_low market well t [] low h = low
raises_low market well t (r ∷ rs) low h =
    let here = justified_has_top market well t r.pool.0 r.limit h.0 h.1.1 in
    raises_low market well (after_raise t r) rs (raise_low t r low here) h.2

-- the raises of a list that replays are in range
raises_ranged : (market : Market) → IsWellFormed market → (t : Limits) (c : List Raise) → EachRaise market (MayReplay market) t c
    → All (λ r. (r.pool.0 < length market.pools) × (1 ≤ r.limit) × (r.limit ≤ MAX_SCORE + 1)) c
raises_ranged market well t [] h k d lt = absurd (omega (arith, lt))
raises_ranged market well t (r ∷ rs) h zero d lt =
    let above = h.1.0 in (h.0, omega (arith, above), justified_has_top market well t r.pool.0 r.limit h.0 h.1.1)
raises_ranged market well t (r ∷ rs) h (suc k) d lt = raises_ranged market well (after_raise t r) rs h.2 k d (omega (arith, lt))

same_at : {A : Type 0} (xs : List A) (k : ℕ) (d e : A) → k < length xs → get_or xs k d ≡ get_or xs k e
same_at [] k d e lt = absurd (omega (arith, lt))
same_at (x ∷ xs) zero d e lt = refl
same_at (x ∷ xs) (suc k) d e lt = same_at xs k d e (omega (arith, lt))

filter_low : {A : Type 0} (p : A → Bool) (xs : List A) → length (filter p xs) ≤ length xs
filter_low p [] = omega arith
filter_low p (x ∷ xs) = let rest = filter_low p xs in elim (cases_Bool (p x)) [
  | inl e ↦ rw e (omega (arith, rest))
  | inr e ↦ rw e (omega (arith, rest))
]

-- of numbers made one for each pool, each is in range where all that can be made are
made_low : (f : ℕ → ℕ) (most n : ℕ) (xs : List ℕ) → xs ≡ map f (range_with_len 0 n) → ((k : ℕ) → f k ≤ most) → All (λ x. x ≤ most) xs
made_low f most n xs e low k d lt =
    let within : k < n = subst (λ (m : ℕ). k < m) (ap length e ∙ length-map-range_with_len f 0 n) lt in
    let is : get_or xs k d ≡ f (0 + k) = ap (λ (ys : List ℕ). get_or ys k d) e ∙ get_or-map-range_with_len f 0 n k (0 + k) d within refl in
    let here = low (0 + k) in
    omega (arith, is, here)

pub result_in_range : (n : NamedMarket) (doc : Document) → IsWellFormed n.market → length n.market.lists ≤ MAX_APPLICANTS → IsResultOf n.market doc → IsInRange n doc
result_in_range n doc well few result = record {
  each_limit = result.each;
  limits = λ k d lt.
      let within = subst (λ (m : ℕ). k < m) result.each lt in
      let is = (result.proved.1 k within).1 in
      let low = greatest_low (limits_after doc.raises) (chain_of n.market k) (raises_low n.market well zeros doc.raises (λ P. omega arith) result.proved.0) in
      let here = same_at doc.limits k d 0 lt in
      omega (arith, is, low, here);
  each_count = ap length result.counts ∙ length-map-range_with_len (count_in n.market (slice_index doc.limits)) 0 (length n.market.pools);
  counts = made_low (count_in n.market (slice_index doc.limits)) MAX_APPLICANTS (length n.market.pools) doc.counts result.counts
      (λ P. let low = filter_low (is_admitted_in n.market (slice_index doc.limits) P) n.market.lists in omega (arith, low, few));
  each_admission = ap length result.admitted ∙ length-map n.market.lists (λ choices. position_or_len (is_eligible n.market (slice_index doc.limits)) choices);
  admitted = λ a lt.
      let f = λ (choices : List Entry). position_or_len (is_eligible n.market (slice_index doc.limits)) choices in
      let is : slice_index doc.admitted a ≡ f (list_of n.market a) = ap (λ (xs : List ℕ). slice_index xs a) result.admitted ∙ at_map f n.market.lists a 0 lt in
      let low = index_low n.market (slice_index doc.limits) (list_of n.market a) in
      omega (arith, is, low);
  raises = raises_ranged n.market well zeros doc.raises result.proved.0;
}

drop_low : {A : Type 0} (k : ℕ) (xs : List A) → length (drop k xs) ≤ length xs
drop_low zero xs = omega arith
drop_low (suc k) [] = omega arith
drop_low (suc k) (x ∷ xs) = let rest = drop_low k xs in omega (arith, rest)

-- a document of a file has fewer raises than the file has bytes
pub few_raises : (n : NamedMarket) (bytes : List ℕ) (doc : Document) → length bytes ≤ 2 ^ 28 → doc ≡ document_of n (rows_of bytes) → length doc.raises < 2 ^ 32
few_raises n bytes doc short is =
    let rows = rows_of bytes in
    let k = 1 + length n.market.pools + length n.market.lists in
    let sizes : length doc.raises ≡ length (raise_rows n rows) = ap (λ (d : Document). length d.raises) is ∙ length-map (raise_rows n rows) (raise_of n.pool_codes) in
    let raises = filter_low is_raise (drop k rows) in
    let later = drop_low k rows in
    let after_header = drop_low 1 (records_of bytes) in
    let few = few_records bytes in
    omega (arith, sizes, raises, later, after_header, few, short)
