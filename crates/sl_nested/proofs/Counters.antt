-- What the counters of pools hold, as offers are added to them one by one, and that they tell the capped demand.
use Rattle.std.specs.Bool.{⊤}
use Rattle.std.proofs.Common.{◌≡◌, ℕ, zero, suc, ◌+◌, ◌<◌, ◌≤◌, true, false, List, [], ◌∷◌, length, min, nat_eq, sum_by, Option, Some, None, refl, sym, ap, ◌∙◌, arith, inl, inr, true≢false, subst, eq-eqb, ne_eqb}
use Rattle.std.specs.List.{range_with_len}
use Rattle.std.proofs.lemmas.Bool.{cases_Bool, cases_eq}
use Rattle.sl_types.specs.declared.kinds.PoolId.{PoolId}
use Rattle.sl_types.specs.declared.kinds.TheConstants.{MAX_DEPTH}
use Rattle.sl_types.specs.Market.{Market, quota_of, parent_of, is_parent, lies_in, children_of, outward, chain_of}
use Rattle.sl_types.specs.WellFormed.{IsWellFormed}
use Rattle.sl_types.proofs.Chains.{chain_step}
use Rattle.sl_laws.specs.Limits.{Limits, admitted_directly, capped_demand}
use Rattle.sl_laws.proofs.Lists.{bit, sum_by_same, sum_by_plus, sum_by_zero, sum_by_filter_le, sum_by_filter_same, range_once}
use Rattle.sl_laws.proofs.Nest.{is_child, depth, shallow, depth_child, lies_child, takes}
use Rattle.sl_laws.proofs.Parts.{parent_outside}
use Rattle.sl_laws.proofs.Cover.{cover}
use Rattle.sl_nested.specs.Counting.{comes_to, one_more}

-- counters as numbers of pools
abbrev pub AreCounted : Market → ℕ → (ℕ → ℕ) → (ℕ → ℕ) → Type 0
AreCounted market P d k = (C : ℕ) → lies_in market C P ≡ true → k C ≡ min (quota_of market C) (comes_to market d k C)

-- counters of 0 hold nothing
pub none_counted : (market : Market) (P : ℕ) (d k : ℕ → ℕ) → ((C : ℕ) → d C ≡ 0) → ((C : ℕ) → k C ≡ 0) → AreCounted market P d k
none_counted market P d k none zeros C inside =
    let inner = sum_by_same k (λ D. 0) (children_of market C) zeros in
    let zero = sum_by_zero (children_of market C) in
    let own = none C in
    let here = zeros C in
    omega (arith, inner, zero, own, here)

-- counters of the same numbers hold the same
pub same_counted : (market : Market) (P : ℕ) (d e k : ℕ → ℕ) → ((C : ℕ) → d C ≡ e C) → AreCounted market P d k → AreCounted market P e k
same_counted market P d e k same are C inside = let s = same C in let a = are C inside in omega (arith, s, a)

-- counters that are one short at R
abbrev pub AreOwed : Market → ℕ → (ℕ → ℕ) → (ℕ → ℕ) → ℕ → Type 0
AreOwed market P d k R = (C : ℕ) → lies_in market C P ≡ true → (m : ℕ) × (comes_to market d k C ≡ m + bit (nat_eq R C)) × (k C ≡ min (quota_of market C) m)

-- counters that are one short at the first of these pools
abbrev pub AreOwedAt : Market → ℕ → (ℕ → ℕ) → (ℕ → ℕ) → List ℕ → Type 0
AreOwedAt market P d k [] = ⊤
AreOwedAt market P d k (R ∷ Rs) = AreOwed market P d k R

-- each of these pools is the parent of the one before it
abbrev pub IsWay : Market → List ℕ → Type 0
IsWay market [] = ⊤
IsWay market (R ∷ Rs) = Rs ≡ outward (chain_of market) (parent_of market R)

module _ (market : Market) (ok : IsWellFormed market) where
  pub way_chain : (R : ℕ) → IsWay market (chain_of market R)
  way_chain R = subst (IsWay market) (sym (chain_step market ok R)) refl

  -- what is left of a way is one
  pub way_on : (R : ℕ) (rest : List ℕ) → rest ≡ outward (chain_of market) (parent_of market R) → IsWay market rest
  way_on R rest is = way_from (parent_of market R) is
    where
      way_from : (o : Option PoolId) → rest ≡ outward (chain_of market) o → IsWay market rest
      way_from None e = subst (IsWay market) (sym e) tt
      way_from (Some S) e = subst (IsWay market) (sym e) (way_chain S.0)

module _ (market : Market) (ok : IsWellFormed market) (P : ℕ) where
  pub owed_chain : (d k : ℕ → ℕ) (R : ℕ) → AreOwed market P d k R → AreOwedAt market P d k (chain_of market R)
  owed_chain d k R owed = subst (AreOwedAt market P d k) (sym (chain_step market ok R)) owed

  -- counters to which at most the demand comes, or at least
  module _ (d k : ℕ → ℕ) (are : AreCounted market P d k) (t : Limits) (x : ℕ) where
    -- what the pools directly inside C pass on
    inner : (C : ℕ) → lies_in market C P ≡ true → sum_by (λ D. min (quota_of market D) (comes_to market d k D)) (children_of market C) ≡ sum_by k (children_of market C)
    inner C inside = sum_by_filter_same (is_child market C) (λ D. min (quota_of market D) (comes_to market d k D)) k (range_with_len 0 (length market.pools))
        (λ D child. sym (are D (lies_child market ok C D P child inside)))

    -- no more is asked for than comes, where no more is directly in each pool
    pub demand_low : ((C : ℕ) → lies_in market C P ≡ true → length (admitted_directly market t C x) ≤ d C) → (C : ℕ) → lies_in market C P ≡ true
        → capped_demand market t C x ≤ comes_to market d k C
    demand_low few C inside = cover market t x (comes_to market d k) (λ D. lies_in market D P ≡ true)
        (λ D within. let i = inner D within in let f = few D within in omega (arith, i, f))
        (λ D E within child. inl (lies_child market ok D E P child within)) C inside

    high_from : ((C : ℕ) → lies_in market C P ≡ true → d C ≤ length (admitted_directly market t C x)) → (n C : ℕ) → (MAX_DEPTH + 1) ≤ n + depth market C
        → lies_in market C P ≡ true → comes_to market d k C ≤ capped_demand market t C x
    high_from many zero C deep inside = let s = shallow market ok C in absurd (omega (arith, s, deep))
    high_from many (suc n) C deep inside =
        let held = sum_by_filter_le (is_child market C) k (λ D. min (quota_of market D) (capped_demand market t D x)) (range_with_len 0 (length market.pools))
        (λ D child.
        let within = lies_child market ok C D P child inside in
        let deeper = depth_child market ok C D child in
        let a = are D within in
        let rest = high_from many n D (omega (arith, deep, deeper)) within in
        omega (arith, a, rest)) in
        let m = many C inside in
        let asked = takes market ok t C x in
        omega (arith, held, m, asked)

    -- no less is asked for than comes, where no less is directly in each pool
    pub demand_high : ((C : ℕ) → lies_in market C P ≡ true → d C ≤ length (admitted_directly market t C x)) → (C : ℕ) → lies_in market C P ≡ true
        → comes_to market d k C ≤ capped_demand market t C x
    demand_high many C inside = high_from many (MAX_DEPTH + 1) C (omega arith) inside

  -- with one more directly in Q the counters are one short there
  pub owed_first : (d k : ℕ → ℕ) (Q : ℕ) → AreCounted market P d k → AreOwed market P (one_more d Q) k Q
  owed_first d k Q are C inside = (comes_to market d k C, omega arith, are C inside)

  -- where R has reached its quota, no more goes up from it
  pub owed_full : (d k : ℕ → ℕ) (R : ℕ) → quota_of market R ≤ k R → AreOwed market P d k R → AreCounted market P d k
  owed_full d k R full owed C inside =
      let o = owed C inside in
      let come = o.1 in
      let held = o.2 in
      elim (cases_eq R C) [
        | inl same ↦
            let one : bit (nat_eq R C) ≡ 1 = ap bit (eq-eqb R C same) in
            let quota : quota_of market R ≡ quota_of market C = ap (quota_of market) same in
            let count : k R ≡ k C = ap k same in
            omega (arith, come, held, one, quota, count, full)
        | inr other ↦ let none : bit (nat_eq R C) ≡ 0 = ap bit (ne_eqb R C other) in omega (arith, come, held, none)
      ]

  -- one more in the counter of R
  module _ (d k k' : ℕ → ℕ) (R : ℕ) (R_in : R < length market.pools) (up : (C : ℕ) → k' C ≡ k C + bit (nat_eq R C)) (free : k R < quota_of market R) (owed : AreOwed market P d k R) where
    -- comes to the pool directly round it alone
    comes_more : (C : ℕ) → comes_to market d k' C ≡ comes_to market d k C + bit (is_child market C R)
    comes_more C =
        let inner = sum_by_same k' (λ D. k D + bit (nat_eq R D)) (children_of market C) up in
        let split = sum_by_plus k (λ D. bit (nat_eq R D)) (children_of market C) in
        let once = range_once (is_child market C) R 0 (length market.pools) (omega arith) (omega (arith, R_in)) in
        omega (arith, inner, split, once)

    held_before : (C : ℕ) → lies_in market C P ≡ true → k' C ≡ min (quota_of market C) (comes_to market d k C)
    held_before C inside =
        let o = owed C inside in
        let come = o.1 in
        let held = o.2 in
        let more = up C in
        elim (cases_eq R C) [
          | inl same ↦
              let one : bit (nat_eq R C) ≡ 1 = ap bit (eq-eqb R C same) in
              let quota : quota_of market R ≡ quota_of market C = ap (quota_of market) same in
              let count : k R ≡ k C = ap k same in
              omega (arith, come, held, one, quota, count, free, more)
          | inr other ↦ let none : bit (nat_eq R C) ≡ 0 = ap bit (ne_eqb R C other) in omega (arith, come, held, none, more)
        ]

    -- at P nothing is short
    pub owed_last : R ≡ P → AreCounted market P d k'
    owed_last is C inside =
        let held = held_before C inside in
        let come = comes_more C in
        elim (cases_Bool (is_child market C R)) [
          | inl child ↦
              let out = parent_outside market ok C R child in
              absurd (true≢false (sym inside ∙ subst (λ (Q : ℕ). lies_in market C Q ≡ false) is out))
          | inr none ↦ let zero : bit (is_child market C R) ≡ 0 = ap bit none in omega (arith, held, come, zero)
        ]

    -- they are short where R lies directly inside
    pub owed_more : (S : PoolId) → parent_of market R ≡ Some S → AreOwed market P d k' S.0
    owed_more S parent C inside =
        let come = comes_more C in
        let one : bit (is_child market C R) ≡ bit (nat_eq S.0 C) = ap (λ (o : Option PoolId). bit (is_parent C o)) parent in
        (comes_to market d k C, omega (arith, come, one), held_before C inside)

    -- so at the first of the pools round R
    pub owed_on : (rest : List ℕ) → rest ≡ outward (chain_of market) (parent_of market R) → AreOwedAt market P d k' rest
    owed_on rest is = owed_from (parent_of market R) refl is
      where
        owed_from : (o : Option PoolId) → parent_of market R ≡ o → rest ≡ outward (chain_of market) o → AreOwedAt market P d k' rest
        owed_from None parent e = subst (AreOwedAt market P d k') (sym e) tt
        owed_from (Some S) parent e = subst (AreOwedAt market P d k') (sym e) (owed_chain d k' S.0 (owed_more S parent))
