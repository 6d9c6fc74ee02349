-- The offers as they are looked at from the greatest merit down, and the merit that fills a pool.
use Rattle.std.proofs.Common.{◌≡◌, ℕ, ◌+◌, ◌<◌, ◌≤◌, true, false, List, length, take, drop, get_or, nat_eq, slice_index, Some, refl, sym, ◌∙◌, arith, inl, inr, subst}
use Rattle.std.specs.List.{list_any}
use Rattle.std.specs.List.Sorted.{IsPermutation}
use Rattle.std.proofs.lemmas.Bool.{cases_lt, or_parts}
use Rattle.std.proofs.lemmas.List.{take_all}
use Rattle.std.proofs.lemmas.List.Folds.{list_any_more}
use Rattle.sl_types.specs.declared.kinds.Rule.TheVariants.{Merit}
use Rattle.sl_types.specs.declared.kinds.Rule.{Rule}
use Rattle.sl_types.specs.declared.kinds.Entry.{Entry}
use Rattle.sl_types.specs.Market.{Market, pool_of, quota_of, rule_of}
use Rattle.sl_types.specs.WellFormed.{IsWellFormed}
use Rattle.sl_laws.specs.Limits.{Limits, with_limit, capped_demand}
use Rattle.sl_laws.specs.Stable.{IsJustified, IsJustifiedBy}
use Rattle.sl_laws.proofs.Lists.{bit}
use Rattle.sl_laws.proofs.Nest.{lies_own}
use Rattle.sl_laws.proofs.Score.{justified_below}
use Rattle.sl_contend.specs.declared.offer.Offer.{Offer}
use Rattle.sl_contend.specs.Offers.{choices_in}
use Rattle.sl_contend.specs.Rule.{IsBest}
use Rattle.sl_contend.proofs.Tallies.{no_offer, ScoresFall, all_high, all_low, tally_few, tally_split, count_more, front_high, back_low}
use Rattle.sl_nested.specs.Counting.{choice_of, counts, counts_directly, count_directly, AreCounts, one_more, is_offer_in}
use Rattle.sl_nested.proofs.Counters.{same_counted, demand_low, demand_high}
use Rattle.sl_nested.proofs.Counted.{directly_counted}

-- x is the greatest merit at which the capped demand for P reaches its quota
pub record IsFilling (market : Market) (t : Limits) (P x : ℕ) : Type 0 where
  pub reached : quota_of market P ≤ capped_demand market t P x
  pub short : capped_demand market t P (x + 1) < quota_of market P

-- one offer more
module _ (market : Market) (t : Limits) (offers : List Offer) (k : ℕ) (h : k < length offers) where
  abbrev here : Offer
  here = get_or offers k no_offer

  directly_more : (C : ℕ) → count_directly market t (take (k + 1) offers) C ≡ count_directly market t (take k offers) C + bit (counts_directly market t C here)
  directly_more C = count_more (counts_directly market t C) offers k h

  -- which counts
  pub counted_more : (P Q : ℕ) (ks : List ℕ) (e : Entry) → counts market t here ≡ true → choice_of market here ≡ Some e → Q ≡ pool_of market e → AreCounts market P (one_more (count_directly market t (take k offers)) Q) ks
      → AreCounts market P (count_directly market t (take (k + 1) offers)) ks
  counted_more P Q ks e counted is at are = same_counted market P (one_more (count_directly market t (take k offers)) Q) (count_directly market t (take (k + 1) offers)) (slice_index ks) (λ C.
      let more = directly_more C in
      let one : bit (counts_directly market t C here) ≡ bit (nat_eq Q C) = rw (counted, is, at) refl in
      omega (arith, more, one)) are

  -- which doesn't
  pub counted_same : (P : ℕ) (ks : List ℕ) → counts market t here ≡ false → AreCounts market P (count_directly market t (take k offers)) ks
      → AreCounts market P (count_directly market t (take (k + 1) offers)) ks
  counted_same P ks miss are = same_counted market P (count_directly market t (take k offers)) (count_directly market t (take (k + 1) offers)) (slice_index ks) (λ C.
      let more = directly_more C in
      let none : bit (counts_directly market t C here) ≡ 0 = rw miss refl in
      omega (arith, more, none)) are

  -- what none of the offers touches, with one more
  pub untouched_more : (C : ℕ) → list_any (is_offer_in market C) (take (k + 1) offers) ≡ false → (list_any (is_offer_in market C) (take k offers) ≡ false) × (is_offer_in market C here ≡ false)
  untouched_more C none =
      or_parts (list_any (is_offer_in market C) (take k offers)) (is_offer_in market C here) (sym (list_any_more (is_offer_in market C) offers k no_offer h) ∙ none)

module _ (market : Market) (ok : IsWellFormed market) (t : Limits) (P : ℕ) (offers : List Offer) (moved : IsPermutation (choices_in market P) offers) where
  -- where all offers were looked at and P isn't full, no merit fills it
  pub never_filled : (k : ℕ) (ks : List ℕ) → length offers ≤ k → AreCounts market P (count_directly market t (take k offers)) ks → slice_index ks P < quota_of market P → (x : ℕ) → capped_demand market t P x < quota_of market P
  never_filled k ks end are free x =
      let all : AreCounts market P (count_directly market t offers) ks = subst (λ (os : List Offer). AreCounts market P (count_directly market t os) ks) (take_all k offers end) are in
      let own = lies_own market P in
      let low = demand_low market ok P (count_directly market t offers) (slice_index ks) all t x (λ C inside.
      let few = tally_few (counts_directly market t C) x offers in
      let is = directly_counted market P t C inside x offers moved in
      omega (arith, few, is)) P own in
      let held = all P own in
      omega (arith, low, held, free)

  module _ (falls : ScoresFall offers) (k : ℕ) (h : k < length offers) where
    abbrev now : Offer
    now = get_or offers k no_offer

    -- the offer with which P reaches its quota tells the merit that fills it
    pub filled : (ks js : List ℕ) → AreCounts market P (count_directly market t (take k offers)) ks → slice_index ks P < quota_of market P
        → AreCounts market P (count_directly market t (take (k + 1) offers)) js → slice_index js P ≡ quota_of market P → IsFilling market t P now.score
    filled ks js were free are full =
        let own = lies_own market P in
        let low = demand_low market ok P (count_directly market t (take k offers)) (slice_index ks) were t (now.score + 1) (λ C inside.
        let is = directly_counted market P t C inside (now.score + 1) offers moved in
        let split = tally_split (counts_directly market t C) (now.score + 1) k offers in
        let none = all_low (counts_directly market t C) (now.score + 1) (drop k offers) (λ i d low. let b = back_low offers falls k h k (omega arith) i d low in omega (arith, b)) in
        let few = tally_few (counts_directly market t C) (now.score + 1) (take k offers) in
        omega (arith, is, split, none, few)) P own in
        let high = demand_high market ok P (count_directly market t (take (k + 1) offers)) (slice_index js) are t now.score (λ C inside.
        let is = directly_counted market P t C inside now.score offers moved in
        let split = tally_split (counts_directly market t C) now.score (k + 1) offers in
        let every = all_high (counts_directly market t C) now.score (take (k + 1) offers) (front_high offers falls k h) in
        omega (arith, is, split, every)) P own in
        let was = were P own in
        let now_held = are P own in
        record {
          reached = omega (arith, high, now_held, full);
          short = omega (arith, low, was, free);
        }

-- the best raise, from the merit that fills a pool
module _ (market : Market) (ok : IsWellFormed market) (t : Limits) (P : ℕ) (merit : rule_of market P ≡ Merit) where
  asked : (x : ℕ) → IsJustified market t P x → quota_of market P ≤ capped_demand market (with_limit t P 0) P x
  asked x j = subst (λ (r : Rule). IsJustifiedBy r market t P x) merit j

  pub filling_best : (x : ℕ) → IsFilling market (with_limit t P 0) P x → IsBest market t P x
  filling_best x fills = record {
    justified = λ some. subst (λ (r : Rule). IsJustifiedBy r market t P x) (sym merit) fills.reached;
    greatest = λ y some j. elim (cases_lt x y) [
      | inl far ↦ let k = asked (x + 1) (justified_below market ok t P y (x + 1) (omega (arith, far)) j) in let s = fills.short in absurd (omega (arith, k, s))
      | inr fine ↦ fine
    ];
  }

  pub none_best : ((x : ℕ) → capped_demand market (with_limit t P 0) P x < quota_of market P) → IsBest market t P 0
  none_best never = record {
    justified = λ some. absurd (omega (arith, some));
    greatest = λ y some j. let k = asked y j in let n = never y in absurd (omega (arith, k, n));
  }
