-- The applicants who are admitted directly in a pool are its offers that count.
use Rattle.std.proofs.Common.{◌≡◌, ℕ, suc, ◌+◌, ◌<◌, Bool, true, false, ◌&&◌, cond, List, [], ◌∷◌, length, count_by, All, nat_eq, nat_le, find, slice_get, Some, refl, sym, ap, ◌∙◌, arith, inl, inr, eq-eqb, ne_eqb, eqb-true}
use Rattle.std.specs.List.{flat_map, position_or_len}
use Rattle.std.specs.List.Sorted.{IsPermutation}
use Rattle.std.proofs.lemmas.Bool.{cases_Bool}
use Rattle.std.proofs.lemmas.List.Elements.{All-nil, All-cons, All-append}
use Rattle.std.proofs.lemmas.List.Sorted.{All-permutation}
use Rattle.std.proofs.lemmas.List.Sums.{length-filter, sum_by-cons}
use Rattle.sl_types.specs.declared.kinds.Entry.{Entry}
use Rattle.sl_types.specs.Market.{Market, pool_of, list_of, lies_in}
use Rattle.sl_types.specs.Valid.{applicant_numbers}
use Rattle.sl_laws.specs.Limits.{Limits, is_eligible, is_admitted_directly, admitted_directly, passes}
use Rattle.sl_laws.specs.Stable.{is_choice_in}
use Rattle.sl_contend.specs.declared.offer.Offer.{Offer}
use Rattle.sl_contend.specs.Offers.{offer_of, offers_from, offers_by, choices_in}
use Rattle.sl_laws.proofs.Lists.{bit}
use Rattle.sl_contend.proofs.Sums.{offers_counted}
use Rattle.sl_nested.specs.Counting.{counts_directly, is_offer_in}

-- whether an offer of a merit of at least x counts directly in C
abbrev pub hits : Market → Limits → ℕ → ℕ → Offer → Bool
hits market t C x o = counts_directly market t C o && nat_le x o.score

-- a list that is the rest of another from index i on
abbrev IsRest : List Entry → ℕ → List Entry → Type 0
IsRest all i es = (j : ℕ) → slice_get all (i + j) ≡ slice_get es j

rest_tail : (all : List Entry) (i : ℕ) (e : Entry) (es : List Entry) → IsRest all i (e ∷ es) → IsRest all (i + 1) es
rest_tail all i e es rest j = let n : i + 1 + j ≡ i + suc j = omega arith in ap (slice_get all) n ∙ rest (suc j)

rest_head : (all : List Entry) (i : ℕ) (e : Entry) (es : List Entry) → IsRest all i (e ∷ es) → slice_get all i ≡ Some e
rest_head all i e es rest = let n : i ≡ i + 0 = omega arith in ap (slice_get all) n ∙ rest 0

module _ (market : Market) (P : ℕ) where
  -- an offer is in P
  abbrev pub IsInside : Offer → Type 0
  IsInside o = is_offer_in market P o ≡ true

  inside_from : (a i : ℕ) (es : List Entry) → IsRest (list_of market a) i es → All IsInside (offers_from market P a i es)
  inside_from a i [] rest = All-nil IsInside
  inside_from a i (e ∷ es) rest =
      let later = inside_from a (i + 1) es (rest_tail (list_of market a) i e es rest) in
      elim (cases_Bool (is_choice_in market P e)) [
        | inl hit ↦
            let here : IsInside (offer_of a i e) = ap (passes (is_choice_in market P)) (rest_head (list_of market a) i e es rest) ∙ hit in
            rw hit (All-cons IsInside (offer_of a i e) (offers_from market P a (i + 1) es) here later)
        | inr miss ↦ rw miss later
      ]

  inside_flat : (ns : List ℕ) → All IsInside (flat_map (offers_by market P) ns)
  inside_flat [] = All-nil IsInside
  inside_flat (n ∷ ns) = All-append IsInside (offers_by market P n) (flat_map (offers_by market P) ns) (inside_from n 0 (list_of market n) (λ j. ap (slice_get (list_of market n)) (omega arith))) (inside_flat ns)

  -- each offer of P is
  pub offers_inside : (offers : List Offer) → IsPermutation (choices_in market P) offers → All IsInside offers
  offers_inside offers moved = All-permutation IsInside (choices_in market P) offers moved (inside_flat (applicant_numbers market))

  module _ (t : Limits) (C : ℕ) (inside : lies_in market C P ≡ true) (x : ℕ) where
    abbrev is_hit : Offer → Bool
    is_hit o = hits market t C x o

    abbrev hit : Offer → ℕ
    hit o = bit (is_hit o)

    -- a choice that is directly in C is in P
    in_P : (e : Entry) → pool_of market e ≡ C → is_choice_in market P e ≡ true
    in_P e is = ap (λ (D : ℕ). lies_in market D P) is ∙ inside

    module _ (a : ℕ) where
      abbrev all : List Entry
      all = list_of market a

      abbrev first : ℕ
      first = position_or_len (is_eligible market t) all

      no_hit : (i : ℕ) (e : Entry) → nat_eq first i ≡ false → hit (offer_of a i e) ≡ 0
      no_hit i e miss = rw miss refl

      hits_more : (i : ℕ) (e : Entry) (es : List Entry) → count_by is_hit (offers_from market P a i (e ∷ es)) ≡ cond (is_choice_in market P e) (hit (offer_of a i e)) 0 + count_by is_hit (offers_from market P a (i + 1) es)
      hits_more i e es = elim (cases_Bool (is_choice_in market P e)) [
        | inl here ↦ rw here (sum_by-cons hit (offer_of a i e) (offers_from market P a (i + 1) es))
        | inr else ↦ rw else (omega arith)
      ]

      -- no choice past the admitted one counts
      no_hits : (i : ℕ) (es : List Entry) → first < i → count_by is_hit (offers_from market P a i es) ≡ 0
      no_hits i [] past = refl
      no_hits i (e ∷ es) past =
          let rest = no_hits (i + 1) es (omega (arith, past)) in
          let more = hits_more i e es in
          let none = no_hit i e (ne_eqb first i (λ same. omega (arith, same, past))) in
          elim (cases_Bool (is_choice_in market P e)) [
            | inl here ↦ let c : cond (is_choice_in market P e) (hit (offer_of a i e)) 0 ≡ hit (offer_of a i e) = rw here refl in omega (arith, rest, more, none, c)
            | inr else ↦ let c : cond (is_choice_in market P e) (hit (offer_of a i e)) 0 ≡ 0 = rw else refl in omega (arith, rest, more, c)
          ]

      -- the test of the admitted choice
      abbrev is_directly : Entry → Bool
      is_directly e = nat_eq (pool_of market e) C && nat_le x e.score

      -- the admitted choice counts where it passes
      one_hit : (i : ℕ) (e : Entry) → first ≡ i → slice_get all i ≡ Some e → cond (is_choice_in market P e) (hit (offer_of a i e)) 0 ≡ bit (is_directly e)
      one_hit i e is at =
          let here : nat_eq first i ≡ true = eq-eqb first i is in
          let same : is_hit (offer_of a i e) ≡ is_directly e = rw (here, at) refl in
          elim (cases_Bool (nat_eq (pool_of market e) C)) [
            | inl direct ↦ let within = in_P e (eqb-true (pool_of market e) C direct) in rw (within, same) refl
            | inr else ↦
                let none : is_directly e ≡ false = rw else refl in
                elim (cases_Bool (is_choice_in market P e)) [
                  | inl within ↦ rw (within, same) refl
                  | inr out ↦ rw (out, none) refl
                ]
          ]

      hits_from : (i : ℕ) (es : List Entry) → IsRest all i es → first ≡ i + position_or_len (is_eligible market t) es → count_by is_hit (offers_from market P a i es) ≡ bit (passes is_directly (find (is_eligible market t) es))
      hits_from i [] rest is = refl
      hits_from i (e ∷ es) rest is =
          let more = hits_more i e es in
          elim (cases_Bool (is_eligible market t e)) [
            | inl able ↦
                let at : first ≡ i = is ∙ rw able (omega arith) in
                let none = no_hits (i + 1) es (omega (arith, at)) in
                let one = one_hit i e at (rest_head all i e es rest) in
                rw able (omega (arith, more, none, one))
            | inr never ↦
                let at : first ≡ i + 1 + position_or_len (is_eligible market t) es = is ∙ rw never (omega arith) in
                let later = hits_from (i + 1) es (rest_tail all i e es rest) at in
                let none = no_hit i e (ne_eqb first i (λ same. omega (arith, same, at))) in
                let zero : cond (is_choice_in market P e) (hit (offer_of a i e)) 0 ≡ 0 = elim (cases_Bool (is_choice_in market P e)) [
                  | inl here ↦ rw here none
                  | inr else ↦ rw else refl
                ] in
                rw never (omega (arith, more, zero, later))
          ]

    -- as many are admitted directly in C with a merit of at least x as such offers count
    pub directly_counted : (offers : List Offer) → IsPermutation (choices_in market P) offers → count_by (hits market t C x) offers ≡ length (admitted_directly market t C x)
    directly_counted offers moved =
        offers_counted market P is_hit (is_admitted_directly market t C x)
        (λ a. hits_from a 0 (list_of market a) (λ j. ap (slice_get (list_of market a)) (omega arith)) (omega arith))
        offers moved
        ∙ sym (length-filter (is_admitted_directly market t C x) market.lists)
