-- A set of numbers that spreads along a relation is closed after as many steps as there are numbers.
use Rattle.std.proofs.Common.{◌≡◌, ◌⊎◌, ℕ, zero, suc, ◌<◌, ◌≤◌, Bool, true, false, ◌&&◌, not, List, [], ◌∷◌, length, filter, refl, sym, ◌∙◌, inl, inr, arith, true≢false}
use Rattle.std.proofs.lemmas.Bool.{cases_Bool, or_cases, or_left, or_right, and_parts, and_from, not_from_false}
use Rattle.std.proofs.lemmas.List.FromFn.{length-range_with_len}
use Rattle.std.specs.List.{list_any, range_with_len}
use Rattle.sl_amend.specs.Cone.{spread, spread_times}
use Rattle.sl_amend.proofs.Tested.{any_gives, any_number, any_number_gives, filter_gain}

keeps_all : (xs : List ℕ) → length (filter (λ x. true) xs) ≡ length xs
keeps_all [] = refl
keeps_all (x ∷ xs) = let rest = keeps_all xs in omega (arith, rest)

-- where a test passes as many numbers below n as there are, it passes each
full_passes : (f : ℕ → Bool) (n k : ℕ) → n ≤ length (filter f (range_with_len 0 n)) → k < n → f k ≡ true
full_passes f n k full k_in = elim (cases_Bool (f k)) [
  | inl hit ↦ hit
  | inr miss ↦
      let gain = filter_gain f (λ x. true) (range_with_len 0 n) (λ x h. refl) (any_number (λ x. true && not (f x)) n k k_in (not_from_false (f k) miss)) in
      let all = keeps_all (range_with_len 0 n) in
      let long = length-range_with_len 0 n in
      absurd (omega (arith, gain, all, long, full))
]

module _ (leads : ℕ → ℕ → Bool) (n : ℕ) (S : ℕ → Bool) where
  abbrev numbers : List ℕ
  numbers = range_with_len 0 n

  -- a set that holds, with each number below n, those below n that this one leads to
  abbrev IsShutBelow : (ℕ → Bool) → Type 0
  IsShutBelow T = (Q P : ℕ) → Q < n → P < n → T Q ≡ true → leads Q P ≡ true → T P ≡ true

  -- such a set spreads no further
  spread_low : (T : ℕ → Bool) → IsShutBelow T → (P : ℕ) → P < n → spread leads numbers T P ≡ true → T P ≡ true
  spread_low T shut P P_in h = elim (or_cases (T P) (list_any (λ Q. T Q && leads Q P) numbers) h) [
    | inl here ↦ here
    | inr some ↦ any_number_gives (λ Q. T Q && leads Q P) n (λ Q Q_in k. let parts = and_parts (T Q) (leads Q P) k in shut Q P Q_in P_in parts.0 parts.1) some
  ]

  -- a set that spreads no further is such a set
  shut_from : (T : ℕ → Bool) → list_any (λ P. spread leads numbers T P && not (T P)) numbers ≡ false → IsShutBelow T
  shut_from T never Q P Q_in P_in at_Q leads_on = elim (cases_Bool (T P)) [
    | inl hit ↦ hit
    | inr miss ↦
        let some = any_number (λ R. T R && leads R P) n Q Q_in (and_from (T Q) (leads Q P) at_Q leads_on) in
        let reached : spread leads numbers T P ≡ true = or_right (T P) (list_any (λ R. T R && leads R P) numbers) some in
        absurd (true≢false (sym (any_number (λ P. spread leads numbers T P && not (T P)) n P P_in (and_from (spread leads numbers T P) (not (T P)) reached (not_from_false (T P) miss))) ∙ never))
  ]

  -- a set that spreads no further stays such a set
  shut_on : (T : ℕ → Bool) → IsShutBelow T → IsShutBelow (spread leads numbers T)
  shut_on T shut Q P Q_in P_in at_Q leads_on = or_left (T P) (list_any (λ R. T R && leads R P) numbers) (shut Q P Q_in P_in (spread_low T shut Q Q_in at_Q) leads_on)

  -- after k steps the set spreads no further, or has k numbers
  grows : (k : ℕ) → IsShutBelow (spread_times leads numbers S k) ⊎ (k ≤ length (filter (spread_times leads numbers S k) numbers))
  unfolding spread_times
  grows zero = inr (omega arith)
  grows (suc k) =
      let T : ℕ → Bool = spread_times leads numbers S k in
      elim (grows k) [
        | inl shut ↦ inl (shut_on T shut)
        | inr many ↦ elim (cases_Bool (list_any (λ P. spread leads numbers T P && not (T P)) numbers)) [
          | inl more ↦
              let gain = filter_gain T (spread leads numbers T) numbers (λ P h. or_left (T P) (list_any (λ R. T R && leads R P) numbers) h) more in
              inr (omega (arith, gain, many))
          | inr never ↦ inl (shut_on T (shut_from T never))
        ]
      ]

  -- after as many steps as there are numbers it spreads no further
  pub spread_shut : (Q P : ℕ) → Q < n → P < n → spread_times leads numbers S n Q ≡ true → leads Q P ≡ true → spread_times leads numbers S n P ≡ true
  spread_shut Q P Q_in P_in at_Q leads_on = elim (grows n) [
    | inl shut ↦ shut Q P Q_in P_in at_Q leads_on
    | inr many ↦ full_passes (spread_times leads numbers S n) n P many P_in
  ]

  -- it holds the set that it began with
  pub spread_holds : (k P : ℕ) → S P ≡ true → spread_times leads numbers S k P ≡ true
  unfolding spread_times
  spread_holds zero P h = h
  spread_holds (suc k) P h = or_left (spread_times leads numbers S k P) (list_any (λ R. spread_times leads numbers S k R && leads R P) numbers) (spread_holds k P h)

  -- and is within each closed set that holds that one
  pub spread_within : (T : ℕ → Bool) → ((P : ℕ) → S P ≡ true → T P ≡ true) → ((Q P : ℕ) → T Q ≡ true → leads Q P ≡ true → T P ≡ true)
      → (k P : ℕ) → spread_times leads numbers S k P ≡ true → T P ≡ true
  unfolding spread_times
  spread_within T holds shut zero P h = holds P h
  spread_within T holds shut (suc k) P h = elim (or_cases (spread_times leads numbers S k P) (list_any (λ R. spread_times leads numbers S k R && leads R P) numbers) h) [
    | inl here ↦ spread_within T holds shut k P here
    | inr some ↦ any_gives (λ R. spread_times leads numbers S k R && leads R P) numbers (λ R m.
        let parts = and_parts (spread_times leads numbers S k R) (leads R P) m in
        shut R P (spread_within T holds shut k R parts.0) parts.1) some
  ]
