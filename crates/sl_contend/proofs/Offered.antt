-- The offers of each pool, as rows and as contracts see them.
use Rattle.std.proofs.Common.{◌≡◌, ℕ, zero, suc, ◌+◌, ◌<◌, ◌≤◌, List, [], ◌∷◌, length, map, slice_get, Some, All, refl, sym, ap, arith, inl, inr, subst}
use Rattle.std.specs.List.{flat_map, range_with_len}
use Rattle.std.specs.List.Sorted.{IsPermutation, IsSortedBy}
use Rattle.std.proofs.lemmas.Bool.{cases_Bool}
use Rattle.std.proofs.lemmas.List.Elements.{All-nil, All-cons, All-head, All-tail, All-append, All-weaker}
use Rattle.std.proofs.lemmas.List.Sorted.{All-permutation}
use Rattle.sl_types.specs.declared.kinds.Entry.{Entry}
use Rattle.sl_types.specs.Market.{Market, list_of}
use Rattle.sl_types.specs.Valid.{applicant_numbers}
use Rattle.sl_laws.specs.Stable.{is_choice_in}
use Rattle.sl_contend.specs.declared.offer.Offer.{Offer}
use Rattle.sl_contend.specs.Contention.{Contention, contention_of, contenders_of, feeding, fed_by, each_pool, each_offers}
use Rattle.sl_contend.specs.Offers.{offers_from, offers_by, choices_in, comes_before, offers_in, IsChoice}
use Rattle.sl_contend.proofs.Growing.{range_low}
use Rattle.sl_contend.proofs.Tables.{row_told}
use Rattle.sl_contend.proofs.Orders.{in_order_moves, in_order_sorted}

-- rows that are the same one by one
pub same_rows : {A : Type 0} (f g : ℕ → List A) (k n : ℕ) → ((P : ℕ) → k ≤ P → P < k + n → f P ≡ g P) → map f (range_with_len k n) ≡ map g (range_with_len k n)
same_rows f g k zero same = refl
same_rows f g k (suc n) same = rw (same k (omega arith) (omega arith), same_rows f g (k + 1) n (λ P low high. same P (omega (arith, low)) (omega (arith, high)))) refl

-- an offer of an applicant's list, of which the first choice has the index i
pub record IsListed (a i n : ℕ) (o : Offer) : Type 0 where
  pub app : o.app.0 ≡ a
  pub low : i ≤ o.index
  pub high : o.index < i + n

from_listed : (market : Market) (P a i : ℕ) (es : List Entry) → All (IsListed a i (length es)) (offers_from market P a i es)
from_listed market P a i [] = All-nil (IsListed a i 0)
from_listed market P a i (e ∷ es) =
    let rest = All-weaker (IsListed a (i + 1) (length es)) (IsListed a i (length (e ∷ es))) (λ o h. let s = h.low in let t = h.high in record { app = h.app; low = omega (arith, s); high = omega (arith, t) }) (offers_from market P a (i + 1) es) (from_listed market P a (i + 1) es) in
    elim (cases_Bool (is_choice_in market P e)) [
      | inl hit ↦ rw hit (All-cons (IsListed a i (length (e ∷ es))) (record { score = e.score; app = record { 0 = a }; index = i }) (offers_from market P a (i + 1) es) (record { app = refl; low = omega arith; high = omega arith }) rest)
      | inr miss ↦ rw miss rest
    ]

all_flat : (Q : Offer → Type 0) (f : ℕ → List Offer) (ns : List ℕ) → All (λ n. All Q (f n)) ns → All Q (flat_map f ns)
all_flat Q f [] all = All-nil Q
all_flat Q f (n ∷ ns) all = All-append Q (f n) (flat_map f ns) (All-head (λ m. All Q (f m)) n ns all) (all_flat Q f ns (All-tail (λ m. All Q (f m)) n ns all))

pub choices_are : (market : Market) (P : ℕ) → All (IsChoice market) (choices_in market P)
choices_are market P = all_flat (IsChoice market) (offers_by market P) (applicant_numbers market) (All-weaker (λ a. a < length market.lists) (λ a. All (IsChoice market) (offers_by market P a))
    (λ a h. All-weaker (IsListed a 0 (length (list_of market a))) (IsChoice market) (λ o l. let s = l.app in let t = l.high in record { app = omega (arith, s, h); index = rw s (omega (arith, t)) }) (offers_by market P a) (from_listed market P a 0 (list_of market a)))
    (applicant_numbers market) (range_low (length market.lists)))

module _ (s : Contention) (P : ℕ) (row : List Offer) (P_in : P < s.pools) (got : slice_get s.offers P ≡ Some row) (market : Market) (is : s ≡ contention_of market) where
  pub row_is_offers : row ≡ offers_in market P
  row_is_offers = row_told (offers_in market) market s.offers P row (ap (λ (t : Contention). t.offers) is) (subst (λ (t : Contention). P < t.pools) is P_in) got

  pub row_moves : IsPermutation (choices_in market P) row
  row_moves = subst (λ (xs : List Offer). IsPermutation (choices_in market P) xs) (sym row_is_offers) (in_order_moves (choices_in market P))

  pub row_sorted : IsSortedBy comes_before row
  row_sorted = subst (λ (xs : List Offer). IsSortedBy comes_before xs) (sym row_is_offers) (in_order_sorted (choices_in market P))

  pub row_choices : All (IsChoice market) row
  row_choices = All-permutation (IsChoice market) (choices_in market P) row row_moves (choices_are market P)

abbrev pub made_of : ℕ → List (List Offer) → List (List ℕ) → List (List ℕ) → List (List ℕ) → Contention
made_of pools offers of feeds fed = record { pools = pools; offers = offers; of = of; feeds = feeds; fed = fed }

-- a contention of which each part is the market's
pub contention_is : (market : Market) (pools : ℕ) (offers : List (List Offer)) (of feeds fed : List (List ℕ)) → pools ≡ length market.pools → offers ≡ each_offers market
    → of ≡ each_pool market (contenders_of market) → feeds ≡ each_pool market (feeding market) → fed ≡ each_pool market (fed_by market)
    → made_of pools offers of feeds fed ≡ contention_of market
contention_is market pools offers of feeds fed a b c d e = rw (a, b, c, d, e) refl
