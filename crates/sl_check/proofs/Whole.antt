-- Lists that agree index by index.
use Rattle.std.proofs.Common.{◌≡◌, ◌<◌, ◌∙◌, ℕ, zero, suc, List, [], ◌∷◌, length, refl, ap, arith, slice_index}
use Rattle.std.proofs.lemmas.List.{get_or-map, length-map}
use Rattle.std.proofs.lemmas.List.FromFn.{get_or-map-range_with_len, length-range_with_len, length-map-range_with_len}
use Rattle.std.specs.List.{position_or_len}
use Rattle.sl_types.specs.declared.kinds.Entry.{Entry}
use Rattle.sl_types.specs.Market.{Market, list_of}
use Rattle.sl_laws.specs.Limits.{Limits, is_eligible, count_in}
use Rattle.sl_laws.specs.Outcome.{admitted_indexes, counts_in}
use Rattle.sl_admit.specs.Counting.{chosen_in, counts_of}

-- lists of one length that are the same at each index are the same
same_lists : (n : ℕ) (xs ys : List ℕ) → length xs ≡ n → length ys ≡ n → ((k : ℕ) → k < n → slice_index xs k ≡ slice_index ys k) → xs ≡ ys
same_lists n [] [] ex ey h = refl
same_lists n [] (y ∷ ys) ex ey h = absurd (omega (arith, ex, ey))
same_lists n (x ∷ xs) [] ex ey h = absurd (omega (arith, ex, ey))
same_lists zero (x ∷ xs) (y ∷ ys) ex ey h = absurd (omega (arith, ex))
same_lists (suc n) (x ∷ xs) (y ∷ ys) ex ey h =
    let here : x ≡ y = h 0 (omega arith) in
    let rest = same_lists n xs ys (omega (arith, ex)) (omega (arith, ey)) (λ k low. h (suc k) (omega (arith, low))) in
    rw (here, rest) refl

-- the index of an applicant
pub admitted_index_at : (market : Market) (t : Limits) (a : ℕ) → a < length market.lists → slice_index (admitted_indexes market t) a ≡ position_or_len (is_eligible market t) (list_of market a)
admitted_index_at market t a within = get_or-map (λ (choices : List Entry). position_or_len (is_eligible market t) choices) market.lists a [] 0 within

-- the count of a pool
pub count_at : (market : Market) (t : Limits) (P : ℕ) → P < length market.pools → slice_index (counts_in market t) P ≡ count_in market t P
count_at market t P within = get_or-map-range_with_len (count_in market t) 0 (length market.pools) P P 0 within (omega arith)

-- counts are one for each pool
pub counts_size : (market : Market) (admitted counts : List ℕ) → counts ≡ counts_of market admitted → length counts ≡ length market.pools
counts_size market admitted counts is = ap length is ∙ length-map-range_with_len (chosen_in market admitted) 0 (length market.pools)

-- the indexes of all applicants
pub all_admissions : (market : Market) (t : Limits) (admitted : List ℕ) → length admitted ≡ length market.lists
    → ((a : ℕ) → a < length market.lists → slice_index admitted a ≡ slice_index (admitted_indexes market t) a) → admitted ≡ admitted_indexes market t
all_admissions market t admitted each h = same_lists (length market.lists) admitted (admitted_indexes market t) each (length-map market.lists _) h

-- the counts of all pools
pub all_counts : (market : Market) (t : Limits) (counts : List ℕ) → length counts ≡ length market.pools
    → ((P : ℕ) → P < length market.pools → slice_index counts P ≡ slice_index (counts_in market t) P) → counts ≡ counts_in market t
all_counts market t counts each h =
    same_lists (length market.pools) counts (counts_in market t) each (length-map _ (count_in market t) ∙ length-range_with_len 0 (length market.pools)) h
