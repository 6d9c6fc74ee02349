-- The next pool directly inside a pool.
use Rattle.std.proofs.Common.{◌≤◌, zero, All, inl, inr, ◌≡◌, ◌<◌, ◌+◌, ◌-◌, ℕ, suc, Bool, true, false, List, ◌∷◌, length, ap, ◌∙◌, arith}
use Rattle.std.specs.Prelude.{filter, cond}
use Rattle.std.specs.List.{range_with_len, AllByRecursion}
use Rattle.std.proofs.lemmas.Bool.{cases_Bool}
use Rattle.std.proofs.lemmas.List.Elements.{All-from_recursion}
use Rattle.sl_types.specs.Market.{Market, parent_of, is_parent}
use Rattle.sl_nesting.specs.Inside.{children_from}

module _ (market : Market) (P at : ℕ) (lt : at < length market.pools) where
  abbrev others : List ℕ
  others = range_with_len (at + 1) (length market.pools - (at + 1))

  numbers : range_with_len at (length market.pools - at) ≡ at ∷ others
  numbers = let e : length market.pools - at ≡ suc (length market.pools - (at + 1)) = omega (arith, lt) in ap (λ (n : ℕ). range_with_len at n) e

  abbrev test : ℕ → Bool
  test C = is_parent P (parent_of market C)

  pub is_next : is_parent P (parent_of market at) ≡ true → children_from market P at ≡ at ∷ children_from market P (at + 1)
  is_next h = ap (λ (Cs : List ℕ). filter test Cs) numbers ∙ ap (λ (b : Bool). cond b (at ∷ filter test others) (filter test others)) h

  pub is_skipped : is_parent P (parent_of market at) ≡ false → children_from market P at ≡ children_from market P (at + 1)
  is_skipped h = ap (λ (Cs : List ℕ). filter test Cs) numbers ∙ ap (λ (b : Bool). cond b (at ∷ filter test others) (filter test others)) h

below : (p : ℕ → Bool) (a n most : ℕ) → a + n ≤ most → AllByRecursion (λ C. C < most) (filter p (range_with_len a n))
below p a zero most h = tt
below p a (suc n) most h =
    let later = below p (a + 1) n most (omega (arith, h)) in
    elim (cases_Bool (p a)) [
      | inl passed ↦ (let here : a < most = omega (arith, h) in rw passed (here, later))
      | inr other ↦ rw other later
    ]

-- the pools directly inside a pool are pools of the list
pub children_within : (market : Market) (P : ℕ) → All (λ C. C < length market.pools) (children_from market P 0)
children_within market P =
    All-from_recursion (λ C. C < length market.pools) (children_from market P 0) (below (λ C. is_parent P (parent_of market C)) 0 (length market.pools - 0) (length market.pools) (omega arith))
