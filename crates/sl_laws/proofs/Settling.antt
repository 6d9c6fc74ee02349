-- From any limits, some justified raises lead to limits at which each pool is settled.
use Rattle.std.proofs.Common.{◌≡◌, ◌⊎◌, ℕ, zero, suc, ◌+◌, ◌-◌, ◌<◌, ◌≤◌, true, List, [], ◌∷◌, length, max, nat_eq, sum_by, refl, sym, subst, arith, inl, inr, true≢false, eqb-true, eq-eqb, below_more}
use Rattle.std.specs.List.{range_with_len}
use Rattle.std.proofs.lemmas.Bool.{cases_eq, cases_lt, or_cases, or_left, or_right}
use Rattle.std.proofs.lemmas.List.Sums.{sum_by-cons}
use Rattle.sl_types.specs.declared.kinds.Raise.{Raise}
use Rattle.sl_types.specs.declared.kinds.TheConstants.{MAX_SCORE}
use Rattle.sl_types.specs.Market.{Market, pool_numbers}
use Rattle.sl_types.specs.WellFormed.{IsWellFormed}
use Rattle.sl_laws.specs.Limits.{Limits, effective_limit}
use Rattle.sl_laws.specs.Stable.{IsJustified, IsSettled}
use Rattle.sl_laws.specs.Raises.{EachRaise, Proves, zeros, after_raise, after_raises, limits_after}
use Rattle.sl_laws.specs.Best.{best_raise}
use Rattle.sl_laws.proofs.Best.{best_decides}
use Rattle.sl_laws.proofs.Effective.{among, with_limit_here}
use Rattle.sl_laws.proofs.Least.{raised_up}
use Rattle.sl_laws.proofs.Nest.{le_limit, lies_own}
use Rattle.sl_laws.proofs.Top.{justified_has_top}

-- a sum falls with its terms
sum_less : (f g : ℕ → ℕ) (xs : List ℕ) → ((Q : ℕ) → g Q ≤ f Q) → sum_by g xs ≤ sum_by f xs
sum_less f g [] low = omega arith
sum_less f g (x ∷ xs) low =
    let here = low x in
    let rest = sum_less f g xs low in
    omega (arith, here, rest, sum_by-cons f x xs, sum_by-cons g x xs)

-- and falls where one of them does
sum_falls : (f g : ℕ → ℕ) (xs : List ℕ) (P : ℕ) → ((Q : ℕ) → g Q ≤ f Q) → g P < f P → among P xs ≡ true → sum_by g xs < sum_by f xs
sum_falls f g [] P low falls there = absurd (true≢false (sym there))
sum_falls f g (x ∷ xs) P low falls there = elim (or_cases (nat_eq x P) (among P xs) there) [
  | inl here ↦
      let same : x ≡ P = eqb-true x P here in
      let less : g x < f x = subst (λ (Q : ℕ). g Q < f Q) (sym same) falls in
      let rest = sum_less f g xs low in
      omega (arith, less, rest, sum_by-cons f x xs, sum_by-cons g x xs)
  | inr later ↦
      let here = low x in
      let rest = sum_falls f g xs P low falls later in
      omega (arith, here, rest, sum_by-cons f x xs, sum_by-cons g x xs)
]

-- a number in a range is among its numbers
among_range : (start n Q : ℕ) → start ≤ Q → Q < start + n → among Q (range_with_len start n) ≡ true
among_range start zero Q low high = absurd (omega (arith, low, high))
among_range start (suc n) Q low high = elim (cases_eq start Q) [
  | inl same ↦ or_left (nat_eq start Q) (among Q (range_with_len (start + 1) n)) (eq-eqb start Q same)
  | inr other ↦ or_right (nat_eq start Q) (among Q (range_with_len (start + 1) n)) (among_range (start + 1) n Q (omega (arith, low, other)) (omega (arith, high)))
]

module _ (market : Market) (ok : IsWellFormed market) where
  -- how far limits can still rise, all together
  abbrev room : Limits → ℕ
  room t = sum_by (λ P. MAX_SCORE + 1 - t P) (pool_numbers market)

  abbrev next_raise : Limits → ℕ → Raise
  next_raise t P = record { pool = record { 0 = P }; limit = effective_limit market t P + 1 }

  room_falls : (t : Limits) (P : ℕ) → P < length market.pools → IsJustified market t P (effective_limit market t P + 1) → room (after_raise t (next_raise t P)) < room t
  room_falls t P P_in just =
      let top = justified_has_top market ok t P (effective_limit market t P + 1) P_in just in
      let own = le_limit market t P P (lies_own market P) in
      let new = with_limit_here t P (max (t P) (effective_limit market t P + 1)) in
      sum_falls (λ Q. MAX_SCORE + 1 - t Q) (λ Q. MAX_SCORE + 1 - after_raise t (next_raise t P) Q) (pool_numbers market) P
      (λ Q. let up = raised_up t (next_raise t P) Q in omega (arith, up)) (omega (arith, top, own, new))
      (among_range 0 (length market.pools) P (omega arith) (omega (arith, P_in)))

  -- the first n pools are settled, or one of them isn't
  settled_or_open : (t : Limits) (n : ℕ) → n ≤ length market.pools
      → ((P : ℕ) → P < n → IsSettled market t P) ⊎ ((P : ℕ) × (P < length market.pools) × IsJustified market t P (effective_limit market t P + 1))
  settled_or_open t zero le = inl (λ P lt. absurd (omega (arith, lt)))
  settled_or_open t (suc n) le = elim (settled_or_open t n (omega (arith, le))) [
    | inr found ↦ inr found
    | inl settled ↦
        let decides = best_decides market ok t n (effective_limit market t n + 1) (omega (arith, le)) (omega arith) in
        elim (cases_lt (effective_limit market t n) (best_raise market t n)) [
          | inl more ↦ inr (n, omega (arith, le), decides.1 (omega (arith, more)))
          | inr done ↦ inl (λ P lt. below_more _ _ settled (λ j. let best = decides.0 j in omega (arith, best, done)) P (omega (arith, lt)))
        ]
  ]

  settle : (fuel : ℕ) (t : Limits) → room t ≤ fuel
      → (c : List Raise) × EachRaise market (λ t r. (effective_limit market t r.pool.0 < r.limit) × IsJustified market t r.pool.0 r.limit) t c
      × ((P : ℕ) → P < length market.pools → IsSettled market (after_raises t c) P)
  settle zero t enough = elim (settled_or_open t (length market.pools) (omega arith)) [
    | inl settled ↦ ([], tt, settled)
    | inr found ↦ let falls = room_falls t found.0 found.1 found.2 in absurd (omega (arith, falls, enough))
  ]
  settle (suc fuel) t enough = elim (settled_or_open t (length market.pools) (omega arith)) [
    | inl settled ↦ ([], tt, settled)
    | inr found ↦
        let falls = room_falls t found.0 found.1 found.2 in
        let rest = settle fuel (after_raise t (next_raise t found.0)) (omega (arith, falls, enough)) in
        (next_raise t found.0 ∷ rest.0, (found.1, (omega arith, found.2), rest.1), rest.2)
  ]

-- some list proves its effective limits
pub some_list_proves : (market : Market) → IsWellFormed market → (c : List Raise) × Proves market c (effective_limit market (limits_after c))
some_list_proves market ok =
    let all = settle market ok (room market ok zeros) zeros (omega arith) in
    (all.0, (all.1, λ P P_in. (all.2 P P_in, refl)))
