-- Lists that are changed in place, from another list.
use Rattle.std.proofs.Common.{◌≡◌, ℕ, zero, suc, ◌+◌, ◌<◌, ◌≤◌, Bool, true, false, not, ◌&&◌, ◌||◌, max, cond, List, [], ◌∷◌, length, get_or, set, replicate, refl, sym, ap, ◌∙◌, inl, inr, arith, get_or-set_other, length-set}
use Rattle.std.proofs.lemmas.Bool.{cases_eq}
use Rattle.std.proofs.lemmas.Grind.{get_or-set_at}
use lib.ListN.{length-replicate}
use Rattle.sl_core.specs.Dividing.{greater_of, either_of}
use Rattle.sl_core.proofs.Actors.{replicate_same}
use Rattle.sl_core.proofs.Filling.{same_by_each}

-- the first n places hold what f makes of the old item, the others the old item
pub record Changed {A : Type 0} (xs old : List A) (n : ℕ) (f : ℕ → A → A) (d : A) : Type 0 where
  pub long : length xs ≡ length old
  pub done : (k : ℕ) → k < n → get_or xs k d ≡ f k (get_or old k d)
  pub rest : (k : ℕ) → n ≤ k → get_or xs k d ≡ get_or old k d

pub changed_none : {A : Type 0} (xs : List A) (f : ℕ → A → A) (d : A) → Changed xs xs 0 f d
changed_none xs f d = record { long = refl; done = λ k h. absurd (omega (arith, h)); rest = λ k h. refl }

pub changed_more : {A : Type 0} (xs old : List A) (n : ℕ) (f : ℕ → A → A) (d y : A) → n < length xs → y ≡ f n (get_or xs n d) → Changed xs old n f d → Changed (set xs n y) old (n + 1) f d
changed_more xs old n f d y h is c = record {
  long = length-set xs n y ∙ c.long;
  done = λ k low. elim (cases_eq k n) [
    | inl same ↦ get_or-set_at xs n k y d same h ∙ (is ∙ (ap (f n) (c.rest n (omega arith)) ∙ ap (λ (m : ℕ). f m (get_or old m d)) (sym same)))
    | inr other ↦ get_or-set_other xs n k y d other ∙ c.done k (omega (arith, low, other))
  ];
  rest = λ k high. get_or-set_other xs n k y d (λ e. omega (arith, e, high)) ∙ c.rest k (omega (arith, high));
}

pub greater_long : (xs ys : List ℕ) → length (greater_of xs ys) ≡ length xs
greater_long [] ys = refl
greater_long (x ∷ xs) [] = refl
greater_long (x ∷ xs) (y ∷ ys) = let rest = greater_long xs ys in omega (arith, rest)

pub greater_at : (xs ys : List ℕ) (k : ℕ) → length xs ≡ length ys → get_or (greater_of xs ys) k 0 ≡ max (get_or xs k 0) (get_or ys k 0)
greater_at [] [] k len = refl
greater_at [] (y ∷ ys) k len = absurd (omega (arith, len))
greater_at (x ∷ xs) [] k len = absurd (omega (arith, len))
greater_at (x ∷ xs) (y ∷ ys) zero len = refl
greater_at (x ∷ xs) (y ∷ ys) (suc k) len = greater_at xs ys k (omega (arith, len))

pub either_long : (xs ys : List Bool) → length (either_of xs ys) ≡ length xs
either_long [] ys = refl
either_long (x ∷ xs) [] = refl
either_long (x ∷ xs) (y ∷ ys) = let rest = either_long xs ys in omega (arith, rest)

either_at : (xs ys : List Bool) (k : ℕ) → length xs ≡ length ys → get_or (either_of xs ys) k false ≡ (get_or xs k false || get_or ys k false)
either_at [] [] k len = refl
either_at [] (y ∷ ys) k len = absurd (omega (arith, len))
either_at (x ∷ xs) [] k len = absurd (omega (arith, len))
either_at (x ∷ xs) (y ∷ ys) zero len = refl
either_at (x ∷ xs) (y ∷ ys) (suc k) len = either_at xs ys k (omega (arith, len))

pub greater_all : (xs ys old : List ℕ) (n : ℕ) → length xs ≡ length old → length old ≤ n → Changed ys old n (λ k y. max (get_or xs k 0) y) 0 → ys ≡ greater_of xs old
greater_all xs ys old n len all c = let long = c.long in same_by_each ys (greater_of xs old) 0 (c.long ∙ (sym len ∙ sym (greater_long xs old))) (λ k h. c.done k (omega (arith, h, all, long)) ∙ sym (greater_at xs old k len))

pub either_all : (xs ys old : List Bool) (n : ℕ) → length xs ≡ length old → length old ≤ n → Changed ys old n (λ k y. get_or xs k false || y) false → ys ≡ either_of xs old
either_all xs ys old n len all c = let long = c.long in same_by_each ys (either_of xs old) false (c.long ∙ (sym len ∙ sym (either_long xs old))) (λ k h. c.done k (omega (arith, h, all, long)) ∙ sym (either_at xs old k len))

pub scan_all : (bare : Bool) (xs ys old : List Bool) (n : ℕ) → length xs ≡ length old → length old ≤ n → Changed ys old n (λ k y. not bare && get_or xs k false) false → ys ≡ cond bare (replicate (length old) false) xs
scan_all true xs ys old n len all c = let long = c.long in same_by_each ys (replicate (length old) false) false (long ∙ sym (length-replicate (length old) false)) (λ k h. c.done k (omega (arith, h, all, long)) ∙ sym (replicate_same (length old) k false))
scan_all false xs ys old n len all c = let long = c.long in same_by_each ys xs false (long ∙ sym len) (λ k h. c.done k (omega (arith, h, all, long)))
