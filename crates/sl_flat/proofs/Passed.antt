-- Where the offers that count pass a quota, as they are looked at from the greatest score down.
use Rattle.std.proofs.Common.{◌≡◌, ℕ, ◌+◌, ◌<◌, ◌≤◌, true, false, ◌&&◌, List, length, take, drop, get_or, count_by, All, nat_le, refl, ◌∙◌, arith}
use Rattle.std.proofs.Math.Bool.{and-false}
use Rattle.std.proofs.lemmas.Bool.{lt-leb}
use Rattle.std.proofs.lemmas.List.{drop_more}
use Rattle.std.proofs.lemmas.List.Elements.{All-rest}
use Rattle.sl_types.specs.Market.{Market, quota_of}
use Rattle.sl_laws.specs.Limits.{Limits, demand}
use Rattle.sl_laws.proofs.Lists.{bit}
use Rattle.sl_contend.specs.declared.offer.Offer.{Offer}
use Rattle.sl_contend.proofs.Tallies.{no_offer, ScoresFall, tally, all_high, all_low, tally_few, tally_split, tally_more, count_more, front_high, back_low}
use Rattle.sl_flat.specs.Counting.{counts, IsPassing}

module _ (market : Market) (t : Limits) (P : ℕ) where
  -- how many of some offers count, and how many of a score of at least y
  abbrev pub count_of : List Offer → ℕ
  count_of offers = count_by (counts market t P) offers

  abbrev pub tally_of : ℕ → List Offer → ℕ
  tally_of y offers = tally (counts market t P) y offers

  module _ (offers : List Offer) (k : ℕ) (h : k < length offers) (falls : ScoresFall offers) where
    abbrev here : Offer
    here = get_or offers k no_offer

    -- an offer that doesn't count changes nothing
    pub count_skips : counts market t P here ≡ false → count_of (take (k + 1) offers) ≡ count_of (take k offers)
    count_skips miss =
        let more = count_more (counts market t P) offers k h in
        let none : bit (counts market t P here) ≡ 0 = rw miss refl in
        omega (arith, more, none)

    pub tally_skips : counts market t P here ≡ false → (y : ℕ) → tally_of y (take (k + 1) offers) ≡ tally_of y (take k offers)
    tally_skips miss y =
        let more = tally_more (counts market t P) y offers k h in
        let none : bit (counts market t P here && nat_le y here.score) ≡ 0 = rw miss refl in
        omega (arith, more, none)

    pub skips_low : (last : ℕ) → All (λ o. o.score ≤ last) (drop k offers) → All (λ o. o.score ≤ last) (drop (k + 1) offers)
    skips_low last all = All-rest (λ o. o.score ≤ last) here (drop (k + 1) offers) (drop k offers) (drop_more offers k no_offer h) all

    module _ (hit : counts market t P here ≡ true) where
      pub counts_all : count_of (take (k + 1) offers) ≡ count_of (take k offers) + 1
      counts_all =
          let more = count_more (counts market t P) offers k h in
          let one : bit (counts market t P here) ≡ 1 = rw hit refl in
          omega (arith, more, one)

      pub counts_reach : tally_of here.score (take (k + 1) offers) ≡ count_of (take k offers) + 1
      counts_reach = all_high (counts market t P) here.score (take (k + 1) offers) (front_high offers falls k h) ∙ counts_all

      pub counts_short : tally_of (here.score + 1) (take (k + 1) offers) < count_of (take k offers) + 1
      counts_short =
          let y : ℕ = here.score + 1 in
          let more = tally_more (counts market t P) y offers k h in
          let none : bit (counts market t P here && nat_le y here.score) ≡ 0 = rw (lt-leb y here.score (omega arith), and-false (counts market t P here)) refl in
          let few = tally_few (counts market t P) y (take k offers) in
          omega (arith, more, none, few)

      -- where the quota was reached before this offer, it passes the quota
      pub passes : (last : ℕ) → ((y : ℕ) → tally_of y offers ≡ demand market t P y) → count_of (take k offers) ≡ quota_of market P
          → tally_of last (take k offers) ≡ quota_of market P → tally_of (last + 1) (take k offers) < quota_of market P → All (λ o. o.score ≤ last) (drop k offers)
          → IsPassing market t P (record { last = last; next = here.score })
      passes last are full reach short low =
          let next = here.score in
          let q = counts market t P in
          let split_next = tally_split q next (k + 1) offers in
          let split_more = tally_split q (next + 1) k offers in
          let split_last = tally_split q last k offers in
          let split_past = tally_split q (last + 1) k offers in
          let above = counts_reach in
          let few = tally_few q (next + 1) (take k offers) in
          let none = all_low q (next + 1) (drop k offers) (λ i d j. let b = back_low offers falls k h k (omega arith) i d j in omega (arith, b)) in
          let past = all_low q (last + 1) (drop k offers) (λ i d j. let b = low i d j in omega (arith, b)) in
          let a = are next in
          let b = are (next + 1) in
          let c = are last in
          let d = are (last + 1) in
          record {
            passed = omega (arith, a, split_next, above, full);
            within = omega (arith, b, split_more, few, none, full);
            reached = omega (arith, c, split_last, reach);
            short = omega (arith, d, split_past, short, past);
          }
