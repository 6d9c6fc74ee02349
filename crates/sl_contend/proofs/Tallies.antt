-- How many of some offers pass a test with a score of at least y, as they are looked at from the greatest score down.
use Rattle.std.proofs.Common.{◌≡◌, ℕ, ◌+◌, ◌<◌, ◌≤◌, Bool, true, false, ◌&&◌, List, [], ◌∷◌, length, take, drop, get_or, count_by, All, nat_le, refl, sym, ap, ◌∙◌, arith, inl, inr, le-leb}
use Rattle.std.specs.List.Sorted.{IsSortedBy}
use Rattle.std.proofs.lemmas.Bool.{cases_Bool, cases_lt, lt-leb, lt-ltb, true≢false}
use Rattle.std.proofs.Math.Bool.{and-false}
use Rattle.std.proofs.lemmas.List.{take_all, take-append-drop, get_or-drop, get_or-take, length-take, length-drop}
use Rattle.std.proofs.lemmas.List.Elements.{All-head, All-tail, All-from_get_or}
use Rattle.std.proofs.lemmas.List.Sorted.{sorted_far}
use Rattle.std.proofs.lemmas.List.Sums.{sum_by-append, sum_by-cons, sum_by_more}
use Rattle.sl_laws.proofs.Lists.{bit}
use Rattle.sl_contend.specs.declared.offer.Offer.{Offer}
use Rattle.sl_contend.specs.Offers.{comes_before}
use Rattle.sl_contend.proofs.Orders.{offers_ranked}

-- what is read past the end of a list of offers
abbrev pub no_offer : Offer
no_offer = record { score = 0; app = record { 0 = 0 }; index = 0 }

-- scores don't rise along the offers
abbrev pub ScoresFall : List Offer → Type 0
ScoresFall offers = (i j : ℕ) → i ≤ j → j < length offers → (get_or offers j no_offer).score ≤ (get_or offers i no_offer).score

-- what comes before no other has no greater score
no_greater : (a b : Offer) → comes_before b a ≡ false → b.score ≤ a.score
no_greater a b h = elim (cases_lt a.score b.score) [
  | inl less ↦ let k : comes_before b a ≡ true = rw (lt-ltb a.score b.score less) refl in absurd (true≢false (sym k ∙ h))
  | inr fine ↦ fine
]

pub scores_fall : (offers : List Offer) → IsSortedBy comes_before offers → ScoresFall offers
scores_fall offers sorted i j h j_in = no_greater (get_or offers i no_offer) (get_or offers j no_offer) (sorted_far comes_before offers_ranked offers sorted i j no_offer h j_in)

-- how many of these offers pass, with a score of at least y
abbrev pub tally : (Offer → Bool) → ℕ → List Offer → ℕ
tally q y offers = count_by (λ o. q o && nat_le y o.score) offers

module _ (q : Offer → Bool) (y : ℕ) where
  abbrev one : Offer → ℕ
  one o = bit (q o && nat_le y o.score)

  abbrev any : Offer → ℕ
  any o = bit (q o)

  one_high : (o : Offer) → y ≤ o.score → one o ≡ any o
  one_high o h = elim (cases_Bool (q o)) [
    | inl hit ↦ rw (hit, le-leb y o.score h) refl
    | inr miss ↦ rw miss refl
  ]

  one_low : (o : Offer) → o.score < y → one o ≡ 0
  one_low o h = rw (lt-leb y o.score h, and-false (q o)) refl

  one_few : (o : Offer) → one o ≤ any o
  one_few o = elim (cases_lt o.score y) [
    | inl low ↦ let e = one_low o low in omega (arith, e)
    | inr high ↦ let e = one_high o high in omega (arith, e)
  ]

  -- all that pass, where no score is lower
  pub all_high : (offers : List Offer) → All (λ o. y ≤ o.score) offers → tally q y offers ≡ count_by q offers
  all_high [] all = refl
  all_high (o ∷ offers) all =
      let here = one_high o (All-head (λ x. y ≤ x.score) o offers all) in
      let rest = all_high offers (All-tail (λ x. y ≤ x.score) o offers all) in
      omega (arith, here, rest, sum_by-cons one o offers, sum_by-cons any o offers)

  -- none, where each is
  pub all_low : (offers : List Offer) → All (λ o. o.score < y) offers → tally q y offers ≡ 0
  all_low [] all = refl
  all_low (o ∷ offers) all =
      let here = one_low o (All-head (λ x. x.score < y) o offers all) in
      let rest = all_low offers (All-tail (λ x. x.score < y) o offers all) in
      omega (arith, here, rest, sum_by-cons one o offers)

  pub tally_few : (offers : List Offer) → tally q y offers ≤ count_by q offers
  tally_few [] = omega arith
  tally_few (o ∷ offers) =
      let here = one_few o in
      let rest = tally_few offers in
      omega (arith, here, rest, sum_by-cons one o offers, sum_by-cons any o offers)

  pub tally_split : (k : ℕ) (offers : List Offer) → tally q y offers ≡ tally q y (take k offers) + tally q y (drop k offers)
  tally_split k offers = ap (λ (xs : List Offer). tally q y xs) (sym (take-append-drop k offers)) ∙ sum_by-append one (take k offers) (drop k offers)

  -- one offer more
  pub tally_more : (offers : List Offer) (k : ℕ) → k < length offers → tally q y (take (k + 1) offers) ≡ tally q y (take k offers) + one (get_or offers k no_offer)
  tally_more offers k h = sum_by_more one offers k no_offer h

-- all that pass have a score of at least 0
pub tally_all : (q : Offer → Bool) (offers : List Offer) → tally q 0 offers ≡ count_by q offers
tally_all q offers = all_high q 0 offers (λ i d h. omega arith)

-- all were looked at
pub count_end : (q : Offer → Bool) (k : ℕ) (offers : List Offer) → length offers ≤ k → count_by q (take k offers) ≡ count_by q offers
count_end q k offers h = ap (count_by q) (take_all k offers h)

pub count_more : (q : Offer → Bool) (offers : List Offer) (k : ℕ) → k < length offers → count_by q (take (k + 1) offers) ≡ count_by q (take k offers) + bit (q (get_or offers k no_offer))
count_more q offers k h = sum_by_more (λ o. bit (q o)) offers k no_offer h

-- what was looked at is no lower than the offer at k, and what is left no higher
module _ (offers : List Offer) (falls : ScoresFall offers) (k : ℕ) (h : k < length offers) where
  abbrev here : Offer
  here = get_or offers k no_offer

  pub front_high : All (λ o. here.score ≤ o.score) (take (k + 1) offers)
  front_high = All-from_get_or (λ o. here.score ≤ o.score) (take (k + 1) offers) no_offer (λ i low.
      let size = length-take (k + 1) offers in
      let fall = falls i k (omega (arith, low, size)) h in
      let e : get_or (take (k + 1) offers) i no_offer ≡ get_or offers i no_offer = get_or-take (k + 1) offers i no_offer (omega (arith, low, size)) in
      rw e fall)

  pub back_low : (n : ℕ) → k ≤ n → All (λ o. o.score ≤ here.score) (drop n offers)
  back_low n up = All-from_get_or (λ o. o.score ≤ here.score) (drop n offers) no_offer (λ i low.
      let size = length-drop n offers in
      let fall = falls k (n + i) (omega (arith, up)) (omega (arith, low, size)) in
      rw (get_or-drop n offers i no_offer) fall)
