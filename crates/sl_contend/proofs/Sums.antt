-- Offers of a pool counted applicant by applicant.
use Rattle.std.proofs.Common.{◌≡◌, ℕ, Bool, List, [], ◌∷◌, length, map, get_or, count_by, sum_by, refl, sym, ap, ◌∙◌, arith}
use Rattle.std.specs.List.{flat_map, range_with_len}
use Rattle.std.specs.List.Sorted.{IsPermutation}
use Rattle.std.proofs.lemmas.List.FromFn.{fill_by_all}
use Rattle.std.proofs.lemmas.List.Sorted.{sum_by-IsPermutation}
use Rattle.std.proofs.lemmas.List.Sums.{sum_by-append, sum_by-cons}
use Rattle.sl_types.specs.declared.kinds.Entry.{Entry}
use Rattle.sl_types.specs.Market.{Market, list_of}
use Rattle.sl_types.specs.Valid.{applicant_numbers}
use Rattle.sl_laws.proofs.Lists.{bit}
use Rattle.sl_contend.specs.declared.offer.Offer.{Offer}
use Rattle.sl_contend.specs.Offers.{offers_by, choices_in}

sum_map : {A B : Type 0} (f : A → B) (g : B → ℕ) (h : A → ℕ) (xs : List A) → ((x : A) → h x ≡ g (f x)) → sum_by h xs ≡ sum_by g (map f xs)
sum_map f g h [] same = refl
sum_map f g h (x ∷ xs) same = let rest = sum_map f g h xs same in let here = same x in omega (arith, rest, here, sum_by-cons h x xs, sum_by-cons g (f x) (map f xs))

sum_flat : (g : Offer → ℕ) (f : ℕ → List Offer) (h : ℕ → ℕ) (ns : List ℕ) → ((n : ℕ) → sum_by g (f n) ≡ h n) → sum_by g (flat_map f ns) ≡ sum_by h ns
sum_flat g f h [] same = refl
sum_flat g f h (n ∷ ns) same = let rest = sum_flat g f h ns same in let here = same n in omega (arith, rest, here, sum_by-append g (f n) (flat_map f ns), sum_by-cons h n ns)

sum_index : (g : List Entry → ℕ) (lists : List (List Entry)) → sum_by (λ a. g (get_or lists a [])) (range_with_len 0 (length lists)) ≡ sum_by g lists
sum_index g lists =
    sum_map (λ a. get_or lists a []) g (λ a. g (get_or lists a [])) (range_with_len 0 (length lists)) (λ a. refl)
    ∙ ap (sum_by g) (sym (fill_by_all (λ a. get_or lists a []) lists (length lists) [] refl (λ k h. refl)))

-- as many offers pass a test as lists pass another, where this holds for each applicant
pub offers_counted : (market : Market) (P : ℕ) (hit : Offer → Bool) (admits : List Entry → Bool) → ((a : ℕ) → count_by hit (offers_by market P a) ≡ bit (admits (list_of market a)))
    → (offers : List Offer) → IsPermutation (choices_in market P) offers → count_by hit offers ≡ count_by admits market.lists
offers_counted market P hit admits each offers moved =
    sum_by-IsPermutation (λ o. bit (hit o)) (choices_in market P) offers moved
    ∙ (sum_flat (λ o. bit (hit o)) (offers_by market P) (λ a. bit (admits (list_of market a))) (applicant_numbers market) each
    ∙ sum_index (λ es. bit (admits es)) market.lists)
