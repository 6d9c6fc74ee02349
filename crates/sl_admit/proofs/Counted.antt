-- How many of the applicants from the first on are admitted where, and that of all of them.
use Rattle.std.proofs.Common.{◌≡◌, ◌<◌, ◌≤◌, ◌∙◌, ℕ, zero, suc, ◌+◌, Bool, List, [], ◌∷◌, ◌++◌, length, map, cond, sum_by, slice_index, refl, sym, ap, arith, add-one, zero-add}
use Rattle.std.specs.List.{count_by, range_with_len}
use Rattle.std.proofs.lemmas.List.{get_or-map}
use Rattle.std.proofs.lemmas.List.Sums.{sum_by-append, count_by-le-length, length-filter}
use Rattle.std.proofs.lemmas.List.FromFn.{fill_by_all, length-range_with_len, get_or-map-range_with_len, length-map-range_with_len}
use Rattle.sl_types.proofs.Lists.{sum_by_map}
use Rattle.sl_types.specs.declared.kinds.Entry.{Entry}
use Rattle.sl_types.specs.Market.{Market, list_of}
use Rattle.sl_laws.specs.Limits.{Limits, is_admitted_in, count_in}
use Rattle.sl_laws.specs.Outcome.{admitted_indexes, counts_in}
use Rattle.sl_laws.proofs.Choices.{admitted_at}
use Rattle.sl_admit.specs.Counting.{one_if, is_in, chosen_by, chosen_in, counts_of}

range_more : (a n : ℕ) → range_with_len a (suc n) ≡ range_with_len a n ++ (a + n) ∷ []
range_more a zero = let e : a + 0 ≡ a = omega arith in rw e refl
range_more a (suc n) = let e : a + 1 + n ≡ a + suc n = omega arith in ap (λ xs. a ∷ xs) (rw (← e) (range_more (a + 1) n))

-- one applicant more
pub count_more : (p : ℕ → Bool) (n : ℕ) → count_by p (range_with_len 0 (n + 1)) ≡ count_by p (range_with_len 0 n) + one_if (p n)
count_more p n =
    let e : range_with_len 0 (n + 1) ≡ range_with_len 0 n ++ n ∷ [] = ap (range_with_len 0) (add-one n) ∙ (range_more 0 n ∙ ap (λ (m : ℕ). range_with_len 0 n ++ m ∷ []) (zero-add n)) in
    ap (count_by p) e ∙ sum_by-append (λ a. cond (p a) 1 0) (range_with_len 0 n) (n ∷ []) ∙ ap (λ m. count_by p (range_with_len 0 n) + m) (zero-add (one_if (p n)))

-- no more than there are applicants
pub count_low : (p : ℕ → Bool) (n : ℕ) → count_by p (range_with_len 0 n) ≤ n
count_low p n = let a = count_by-le-length p (range_with_len 0 n) in let b = length-range_with_len 0 n in omega (arith, a, b)

-- counts of all applicants that are right at each pool
pub each_counted : (market : Market) (admitted counts : List ℕ) (n : ℕ) → n ≡ length market.lists → length counts ≡ length market.pools
    → ((P : ℕ) → P < length market.pools → slice_index counts P ≡ count_by (λ a. is_in market P (chosen_by market admitted a)) (range_with_len 0 n)) → counts ≡ counts_of market admitted
each_counted market admitted counts n all sizes h =
    fill_by_all (chosen_in market admitted) counts (length market.pools) 0 sizes (λ P within. h P within ∙ ap (λ m. count_by (λ a. is_in market P (chosen_by market admitted a)) (range_with_len 0 m)) all)

sum_same : (f g : ℕ → ℕ) (a n : ℕ) → ((k : ℕ) → a ≤ k → k < a + n → f k ≡ g k) → sum_by f (range_with_len a n) ≡ sum_by g (range_with_len a n)
sum_same f g a zero same = refl
sum_same f g a (suc n) same =
    let here = same a (omega arith) (omega arith) in
    let rest = sum_same f g (a + 1) n (λ k low high. same k (omega (arith, low)) (omega (arith, high))) in
    sum_by-append f (a ∷ []) (range_with_len (a + 1) n) ∙ rw (here, rest) (sym (sum_by-append g (a ∷ []) (range_with_len (a + 1) n)))

-- a count over the applicants is one over their lists
by_list : (market : Market) (p : List Entry → Bool) → count_by (λ a. p (list_of market a)) (range_with_len 0 (length market.lists)) ≡ count_by p market.lists
by_list market p =
    let lists : market.lists ≡ map (list_of market) (range_with_len 0 (length market.lists)) = fill_by_all (list_of market) market.lists (length market.lists) [] refl (λ k lt. refl) in
    sym (ap (count_by p) lists ∙ sum_by_map (list_of market) (λ es. cond (p es) 1 0) (range_with_len 0 (length market.lists)))

module _ (market : Market) (t : Limits) where
  -- the choice by the index of the admitted choice is that choice
  chosen_is_admitted : (P a : ℕ) → a < length market.lists → is_in market P (chosen_by market (admitted_indexes market t) a) ≡ is_admitted_in market t P (list_of market a)
  chosen_is_admitted P a within =
      ap (is_in market P) (admitted_at market t (list_of market a) (slice_index (admitted_indexes market t) a) (get_or-map _ market.lists a [] 0 within))

  count_is : (P : ℕ) → chosen_in market (admitted_indexes market t) P ≡ count_in market t P
  count_is P =
      sum_same (λ a. one_if (is_in market P (chosen_by market (admitted_indexes market t) a))) (λ a. one_if (is_admitted_in market t P (list_of market a))) 0 (length market.lists)
      (λ a low high. ap one_if (chosen_is_admitted P a (omega (arith, high))))
      ∙ by_list market (is_admitted_in market t P)
      ∙ sym (length-filter (is_admitted_in market t P) market.lists)

  -- the counts of the admissions that limits make
  pub counts_are : counts_of market (admitted_indexes market t) ≡ counts_in market t
  counts_are =
      sym (fill_by_all (chosen_in market (admitted_indexes market t)) (counts_in market t) (length market.pools) 0 (length-map-range_with_len (count_in market t) 0 (length market.pools))
      (λ P within. get_or-map-range_with_len (count_in market t) 0 (length market.pools) P P 0 within (omega arith) ∙ sym (count_is P)))

  -- what counts those
  pub of_limits : (admitted counts : List ℕ) → admitted ≡ admitted_indexes market t → counts ≡ counts_of market admitted → counts ≡ counts_in market t
  of_limits admitted counts is each = each ∙ ap (counts_of market) is ∙ counts_are
