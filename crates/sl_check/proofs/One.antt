-- At most one verdict is right.
use Rattle.std.proofs.Common.{◌≡◌, ◌<◌, ◌≤◌, ◌-◌, ℕ, zero, suc, List, [], ◌∷◌, length, take, refl, sym, ap, arith, subst, inl, inr, slice_index}
use Rattle.std.proofs.lemmas.Bool.{cases_lt}
use Rattle.sl_types.specs.declared.kinds.Raise.{Raise}
use Rattle.sl_types.specs.declared.kinds.PoolId.{PoolId}
use Rattle.sl_types.specs.declared.kinds.AppId.{AppId}
use Rattle.sl_types.specs.Market.{Market}
use Rattle.sl_laws.specs.Limits.{Limits}
use Rattle.sl_laws.specs.Raises.{EachRaise, Replays, Proves, after_raise, limits_after, zeros}
use Rattle.sl_laws.specs.Outcome.{admitted_indexes, counts_in}
use Rattle.sl_check.specs.declared.verdict.Verdict.{Verdict}
use Rattle.sl_check.specs.declared.verdict.Verdict.TheVariants.{Yes, RaiseUnjust, Unsettled, LimitWrong, AdmissionWrong, CountWrong}
use Rattle.sl_check.specs.Verdict.{IsFirstUnjust, IsLowestWithout, IsLimit, IsVerdict, AreSettled, VerdictIsOne}

-- a fact on each raise holds of the first ones
each_take : (market : Market) (F : Limits → Raise → Type 0) (t : Limits) (c : List Raise) (n : ℕ) → EachRaise market F t c → EachRaise market F t (take n c)
each_take market F t [] zero h = tt
each_take market F t [] (suc n) h = tt
each_take market F t (r ∷ c) zero h = tt
each_take market F t (r ∷ c) (suc n) h = (h.0, h.1, each_take market F (after_raise t r) c n h.2)

-- the first ones of a list that replays do so too
pub replays_take : (market : Market) (c : List Raise) (n : ℕ) → Replays market c → Replays market (take n c)
replays_take market c n h = each_take market _ zeros c n h

-- the first ones of the first ones
take_take : (c : List Raise) (m n : ℕ) → m ≤ n → take m (take n c) ≡ take m c
take_take [] zero zero h = refl
take_take [] zero (suc n) h = refl
take_take [] (suc m) zero h = refl
take_take [] (suc m) (suc n) h = refl
take_take (r ∷ c) zero zero h = refl
take_take (r ∷ c) zero (suc n) h = refl
take_take (r ∷ c) (suc m) zero h = absurd (omega (arith, h))
take_take (r ∷ c) (suc m) (suc n) h = ap (λ d. r ∷ d) (take_take c m n (omega (arith, h)))

-- of two first unjust raises neither is before the other
not_below : (market : Market) (raises : List Raise) (j k : ℕ) → IsFirstUnjust market raises j → IsFirstUnjust market raises k → k ≤ j
not_below market raises j k a b = elim (cases_lt j k) [
  | inl low ↦ absurd (a.fails (subst (Replays market) (take_take raises j (k - 1) (omega (arith, low))) (replays_take market (take (k - 1) raises) j b.before)))
  | inr high ↦ high
]

-- so they are one
one_unjust : (market : Market) (raises : List Raise) (j k : ℕ) → IsFirstUnjust market raises j → IsFirstUnjust market raises k → j ≡ k
one_unjust market raises j k a b = let low = not_below market raises j k a b in let high = not_below market raises k j b a in omega (arith, low, high)

-- and likewise the lowest
not_lower : (n : ℕ) (F : ℕ → Type 0) (j k : ℕ) → IsLowestWithout n F j → IsLowestWithout n F k → k ≤ j
not_lower n F j k a b = elim (cases_lt j k) [
  | inl low ↦ absurd (a.fails (b.below j low))
  | inr high ↦ high
]

one_lowest : (n : ℕ) (F : ℕ → Type 0) (j k : ℕ) → IsLowestWithout n F j → IsLowestWithout n F k → j ≡ k
one_lowest n F j k a b = let low = not_lower n F j k a b in let high = not_lower n F k j b a in omega (arith, low, high)

-- a pool and an applicant are known by their numbers
same_pool : (P Q : PoolId) → P.0 ≡ Q.0 → P ≡ Q
same_pool P Q e = ap (λ (n : ℕ). let id : PoolId = record { 0 = n } in id) e

same_applicant : (a b : AppId) → a.0 ≡ b.0 → a ≡ b
same_applicant a b e = ap (λ (n : ℕ). let id : AppId = record { 0 = n } in id) e

-- lists that are the same are so at each index
nowhere_else : (n : ℕ) (xs ys : List ℕ) (k : ℕ) → IsLowestWithout n (λ i. slice_index xs i ≡ slice_index ys i) k → xs ≡ ys → ⊥
nowhere_else n xs ys k a e = a.fails (ap (λ (l : List ℕ). slice_index l k) e)

module _ (market : Market) (raises : List Raise) (limits admitted counts : List ℕ) where
  -- how many tests have passed at a verdict
  abbrev passed : Verdict → ℕ
  passed (RaiseUnjust k) = 0
  passed (Unsettled P) = 1
  passed (LimitWrong P) = 2
  passed (AdmissionWrong a) = 3
  passed (CountWrong P) = 4
  passed Yes = 5

  -- what the test says that comes after n
  abbrev Passes : ℕ → Type 0
  Passes zero = Replays market raises
  Passes (suc zero) = AreSettled market (limits_after raises)
  Passes (suc (suc zero)) = (P : ℕ) → P < length market.pools → IsLimit market (limits_after raises) limits P
  Passes (suc (suc (suc zero))) = admitted ≡ admitted_indexes market (slice_index limits)
  Passes (suc (suc (suc (suc zero)))) = counts ≡ counts_in market (slice_index limits)
  Passes (suc (suc (suc (suc (suc n))))) = ⊥

  -- the first n tests pass
  abbrev PassFirst : ℕ → Type 0
  PassFirst zero = Unit {0}
  PassFirst (suc n) = PassFirst n × Passes n

  each_first : (n i : ℕ) → i < n → PassFirst n → Passes i
  each_first zero i low h = absurd (omega (arith, low))
  each_first (suc n) i low h = elim (cases_lt i n) [
    | inl below ↦ each_first n i below h.0
    | inr high ↦ let is : n ≡ i = omega (arith, low, high) in subst Passes is h.1
  ]

  -- three of them where the limits are proved
  proves_first : Proves market raises (slice_index limits) → PassFirst 3
  proves_first h = (((tt, h.0), (λ P within. (h.1 P within).0)), λ P within. sym (h.1 P within).1)

  -- those before a verdict do
  pass_before : (v : Verdict) → IsVerdict market raises limits admitted counts v → PassFirst (passed v)
  pass_before (RaiseUnjust k) h = tt
  pass_before (Unsettled P) h = (tt, h.0)
  pass_before (LimitWrong P) h = ((tt, h.0), h.1)
  pass_before (AdmissionWrong a) h = proves_first h.0
  pass_before (CountWrong P) h = (proves_first h.0, h.1)
  pass_before Yes h = ((proves_first h.0, h.1), h.2)

  -- and the next one fails
  fails_next : (v : Verdict) → IsVerdict market raises limits admitted counts v → Passes (passed v) → ⊥
  fails_next (RaiseUnjust k) h all = h.fails (replays_take market raises k all)
  fails_next (Unsettled P) h all = h.1.fails (all P.0 h.1.within)
  fails_next (LimitWrong P) h all = h.2.fails (all P.0 h.2.within)
  fails_next (AdmissionWrong a) h all = nowhere_else (length market.lists) admitted (admitted_indexes market (slice_index limits)) a.0 h.1 all
  fails_next (CountWrong P) h all = nowhere_else (length market.pools) counts (counts_in market (slice_index limits)) P.0 h.2 all
  fails_next Yes h all = all

  -- so of two verdicts neither is before the other
  not_before : (v w : Verdict) → IsVerdict market raises limits admitted counts v → IsVerdict market raises limits admitted counts w → passed w ≤ passed v
  not_before v w a b = elim (cases_lt (passed v) (passed w)) [
    | inl low ↦ absurd (fails_next v a (each_first (passed w) (passed v) low (pass_before w b)))
    | inr high ↦ high
  ]

  -- verdicts of one kind are the same
  of_one_kind : (v w : Verdict) → passed v ≡ passed w → IsVerdict market raises limits admitted counts v → IsVerdict market raises limits admitted counts w → v ≡ w
  of_one_kind (RaiseUnjust j) (RaiseUnjust k) e a b = ap RaiseUnjust (one_unjust market raises j k a b)
  of_one_kind (Unsettled P) (Unsettled Q) e a b = ap Unsettled (same_pool P Q (one_lowest _ _ P.0 Q.0 a.1 b.1))
  of_one_kind (LimitWrong P) (LimitWrong Q) e a b = ap LimitWrong (same_pool P Q (one_lowest _ _ P.0 Q.0 a.2 b.2))
  of_one_kind (AdmissionWrong i) (AdmissionWrong j) e a b = ap AdmissionWrong (same_applicant i j (one_lowest _ _ i.0 j.0 a.1 b.1))
  of_one_kind (CountWrong P) (CountWrong Q) e a b = ap CountWrong (same_pool P Q (one_lowest _ _ P.0 Q.0 a.2 b.2))
  of_one_kind Yes Yes e a b = refl
  of_one_kind v w e a b = absurd (omega (arith, e))

  one_here : (v w : Verdict) → IsVerdict market raises limits admitted counts v → IsVerdict market raises limits admitted counts w → v ≡ w
  one_here v w a b =
      let low = not_before v w a b in
      let high = not_before w v b a in
      of_one_kind v w (omega (arith, low, high)) a b

pub one_verdict : VerdictIsOne
one_verdict market raises limits admitted counts v w a b = one_here market raises limits admitted counts v w a b
