-- Lists with something for each applicant.
use Rattle.std.proofs.Common.{◌≡◌, ◌<◌, ◌∙◌, ℕ, zero, suc, List, [], ◌∷◌, length, map, get_or, All, refl, sym, arith}
use Rattle.std.specs.List.{range_with_len}
use Rattle.std.proofs.lemmas.List.{length-map}
use Rattle.std.proofs.lemmas.List.Elements.{All-head, All-tail}
use Rattle.std.proofs.lemmas.List.FromFn.{fill_by_all}
use Rattle.sl_types.specs.declared.kinds.Entry.{Entry}
use Rattle.sl_types.specs.Market.{Market, list_of}

at_map : (f : List Entry → ℕ) (lists : List (List Entry)) (k d : ℕ) → k < length lists → get_or (map f lists) k d ≡ f (get_or lists k [])
at_map f [] k d h = absurd (omega (arith, h))
at_map f (l ∷ ls) zero d h = refl
at_map f (l ∷ ls) (suc k) d h = at_map f ls k d (omega (arith, h))

-- a function of the list, applicant by applicant
pub by_applicant : (market : Market) (f : List Entry → ℕ) (n : ℕ) → n ≡ length market.lists → map (λ a. f (list_of market a)) (range_with_len 0 n) ≡ map f market.lists
by_applicant market f n e =
    sym (fill_by_all (λ a. f (list_of market a)) (map f market.lists) n 0 (length-map market.lists f ∙ sym e)
    (λ k lt. at_map f market.lists k 0 (omega (arith, lt, e))))

-- functions that agree on each list
pub same_map : (f g : List Entry → ℕ) (lists : List (List Entry)) → All (λ es. f es ≡ g es) lists → map f lists ≡ map g lists
same_map f g [] all = refl
same_map f g (l ∷ ls) all = rw (All-head (λ es. f es ≡ g es) l ls all, same_map f g ls (All-tail (λ es. f es ≡ g es) l ls all)) refl
