-- Lists that are made of the numbers below a bound.
use Rattle.std.proofs.Common.{◌≡◌, ◌∙◌, ◌<◌, ℕ, Bool, false, map, position, None, ap, arith}
use Rattle.std.specs.List.{list_any, range_with_len}
use Rattle.std.proofs.lemmas.List.Folds.{list_any_none}
use Rattle.std.proofs.lemmas.List.FromFn.{length-range_with_len, get_or-range_with_len, length-map-range_with_len, get_or-map-range_with_len}
use Rattle.sl_types.proofs.Lists.{first_none}

module _ {A : Type 0} (p : A → Bool) (f : ℕ → A) (n : ℕ) (never : (k : ℕ) → k < n → p (f k) ≡ false) where
  -- a test that fails at each number has no first that passes
  pub none_numbered : position p (map f (range_with_len 0 n)) ≡ None
  none_numbered = first_none p (map f (range_with_len 0 n)) (f 0) (λ k lt.
      let inside : k < n = omega (arith, lt, length-map-range_with_len f 0 n) in
      ap p (get_or-map-range_with_len f 0 n k k (f 0) inside (omega arith)) ∙ never k inside)

  -- and none that passes
  pub any_numbered : list_any p (map f (range_with_len 0 n)) ≡ false
  any_numbered = list_any_none p (map f (range_with_len 0 n)) (λ k d lt.
      let inside : k < n = omega (arith, lt, length-map-range_with_len f 0 n) in
      ap p (get_or-map-range_with_len f 0 n k k d inside (omega arith)) ∙ never k inside)

-- the same of the numbers themselves
pub no_number : (p : ℕ → Bool) (n : ℕ) → ((k : ℕ) → k < n → p k ≡ false) → position p (range_with_len 0 n) ≡ None
no_number p n never = first_none p (range_with_len 0 n) 0 (λ k lt.
    let inside : k < n = omega (arith, lt, length-range_with_len 0 n) in
    ap p (get_or-range_with_len 0 n k 0 inside ∙ omega arith) ∙ never k inside)
