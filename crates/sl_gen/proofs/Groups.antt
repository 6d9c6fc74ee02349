-- The pools of a generated round break no rule: a pool lies in one that stands before it in its group of eight.
use Rattle.std.proofs.Common.{◌≡◌, ◌∙◌, ◌<◌, ◌≤◌, ◌+◌, ◌*◌, ◌/◌, ◌%◌, ◌&&◌, ℕ, zero, suc, Bool, true, false, not, List, map, length, position, nat_eq, nat_lt, Option, Some, None, refl, sym, ap, subst, arith, inl, inr, ltb-false}
use Rattle.std.specs.List.{list_any, range_with_len}
use Rattle.std.proofs.lemmas.Bool.{cases_Bool, cases_lt}
use Rattle.std.proofs.lemmas.List.{get_or_past}
use Rattle.std.proofs.lemmas.List.FromFn.{length-map-range_with_len, get_or-map-range_with_len}
use Rattle.std.proofs.lemmas.Option.{none-some}
use Rattle.sl_types.specs.declared.kinds.Entry.{Entry}
use Rattle.sl_types.specs.declared.kinds.Pool.{Pool}
use Rattle.sl_types.specs.declared.kinds.PoolId.{PoolId}
use Rattle.sl_types.specs.declared.kinds.TheConstants.{MAX_DEPTH, MAX_QUOTA}
use Rattle.sl_types.specs.Market.{Market, no_pool, pool_at, parent_of, rule_of, climb, outward}
use Rattle.sl_types.specs.Rules.{is_merit, has_parent_where, has_quota_out, is_no_pool, has_parent_out, is_in_ring, is_too_deep, is_badly_nested}
use Rattle.sl_types.specs.Valid.{quota_fault, nesting_fault, first_quota_out, first_parent_out, first_in_ring, first_too_deep, first_badly_nested}
use Rattle.sl_gen.specs.Pools.{fellow_of, rule_of_pool, parent_of_pool, pool_numbered}
use Rattle.sl_gen.proofs.Numbered.{none_numbered, no_number}
use Rattle.sl_gen.proofs.Failing.{not_below, not_up_to, not_equal}

-- the pool round pool k: it stands before k in the group, and both are merit pools
pub record IsRound (k : ℕ) (Q : PoolId) : Type 0 where
  pub group : Q.0 / 8 ≡ k / 8
  pub before : Q.0 % 8 < k % 8
  pub merit : 4 ≤ Q.0 % 8

pub parent_is : (k : ℕ) (Q : PoolId) → parent_of_pool k ≡ Some Q → IsRound k Q
parent_is k Q h = elim (cases_Bool (nat_lt (k % 8) 5)) [
  | inl low ↦ absurd (none-some Q (sym (rw low refl) ∙ h))
  | inr high ↦ elim (cases_Bool (nat_lt (k % 8) 7)) [
    | inl mid ↦
        let at_least = ltb-false (k % 8) 5 high in
        let e : Some (fellow_of k 4) ≡ Some Q = sym (rw (high, mid) refl) ∙ h in
        let same : fellow_of k 4 ≡ Q = cc e in
        let is : k / 8 * 8 + 4 ≡ Q.0 = ap (λ (P : PoolId). P.0) same in
        record { group = omega (arith, is); before = omega (arith, is, at_least); merit = omega (arith, is) }
    | inr top ↦
        let at_least = ltb-false (k % 8) 7 top in
        let e : Some (fellow_of k 5) ≡ Some Q = sym (rw (high, top) refl) ∙ h in
        let same : fellow_of k 5 ≡ Q = cc e in
        let is : k / 8 * 8 + 5 ≡ Q.0 = ap (λ (P : PoolId). P.0) same in
        record { group = omega (arith, is); before = omega (arith, is, at_least); merit = omega (arith, is) }
  ]
]

-- the pools from place 4 on are merit pools
pub merit_from : (k : ℕ) → 4 ≤ k % 8 → is_merit (rule_of_pool k) ≡ true
merit_from k high =
    let a = not_below (k % 8) 2 (omega (arith, high)) in
    let b = not_below (k % 8) 4 high in
    rw (a, b) refl

-- a test that fails at the parent, if there is one
no_parent_where : (p : PoolId → Bool) (o : Option PoolId) → ((Q : PoolId) → o ≡ Some Q → p Q ≡ false) → has_parent_where p o ≡ false
no_parent_where p None h = refl
no_parent_where p (Some Q) h = h Q refl

outward_never : (f : ℕ → List ℕ) (P : ℕ) (o : Option PoolId) → ((R : PoolId) → o ≡ Some R → list_any (λ S. nat_eq S P) (f R.0) ≡ false) → list_any (λ S. nat_eq S P) (outward f o) ≡ false
outward_never f P None h = refl
outward_never f P (Some R) h = h R refl

outward_few : (f : ℕ → List ℕ) (n : ℕ) (o : Option PoolId) → ((R : PoolId) → o ≡ Some R → length (f R.0) ≤ n) → length (outward f o) ≤ n
outward_few f n None h = omega arith
outward_few f n (Some R) h = h R refl

-- a market of so many groups of pools, with any programmes and lists
module _ (groups : ℕ) (progs : List PoolId) (lists : List (List Entry)) where
  abbrev pub market : Market
  market = record { pools = map pool_numbered (range_with_len 0 (8 * groups)); progs = progs; lists = lists }

  pub how_many : length market.pools ≡ 8 * groups
  how_many = length-map-range_with_len pool_numbered 0 (8 * groups)

  pub at_number : (P : ℕ) → P < 8 * groups → pool_at market P ≡ pool_numbered P
  at_number P lt = get_or-map-range_with_len pool_numbered 0 (8 * groups) P P no_pool lt (omega arith)

  pub rule_is : (P : ℕ) → P < 8 * groups → rule_of market P ≡ rule_of_pool P
  rule_is P lt = ap (λ (p : Pool). p.rule) (at_number P lt)

  round_is : (P : ℕ) (Q : PoolId) → parent_of market P ≡ Some Q → IsRound P Q
  round_is P Q h = elim (cases_lt P (8 * groups)) [
    | inl inside ↦ parent_is P Q (sym (ap (λ (p : Pool). p.parent) (at_number P inside)) ∙ h)
    | inr past ↦
        let none : parent_of market P ≡ None = ap (λ (p : Pool). p.parent) (get_or_past market.pools P no_pool (omega (arith, past, how_many))) in
        absurd (none-some Q (sym none ∙ h))
  ]

  never_back : (m P Q : ℕ) → Q < P → list_any (λ S. nat_eq S P) (climb market m Q) ≡ false
  unfolding climb
  never_back zero P Q low = refl
  never_back (suc m) P Q low =
      let further = outward_never (climb market m) P (parent_of market Q) (λ R h. let r = round_is Q R h in never_back m P R.0 (omega (arith, low, r.group, r.before))) in
      rw (not_equal Q P (λ same. omega (arith, low, same)), further) refl

  few_round : (m P : ℕ) → length (climb market m P) ≤ 1 + P % 8
  unfolding climb
  few_round zero P = omega arith
  few_round (suc m) P =
      let further = outward_few (climb market m) (P % 8) (parent_of market P) (λ R h. let r = round_is P R h in let few = few_round m R.0 in omega (arith, few, r.before)) in
      omega (arith, further)

  pub no_quota_fault : quota_fault market ≡ None
  no_quota_fault = let none : first_quota_out market ≡ None = none_numbered has_quota_out pool_numbered (8 * groups) (λ k lt.
      let low = not_below (1 + (k * 29) % 60) 1 (omega arith) in
      let high = not_below MAX_QUOTA (1 + (k * 29) % 60) (omega arith) in
      rw (low, high) refl) in
      rw none refl

  no_parent_out : first_parent_out market ≡ None
  no_parent_out = none_numbered (has_parent_out market) pool_numbered (8 * groups) (λ k lt.
      no_parent_where (is_no_pool market) (parent_of_pool k) (λ Q h.
      let r = parent_is k Q h in not_up_to (length market.pools) Q.0 (omega (arith, lt, how_many, r.group))))

  no_ring : first_in_ring market ≡ None
  no_ring = subst (λ (m : ℕ). position (is_in_ring market) (range_with_len 0 m) ≡ None) (sym how_many) (no_number (is_in_ring market) (8 * groups) (λ P lt.
      outward_never (climb market (length market.pools)) P (parent_of market P) (λ Q h.
      let r = round_is P Q h in never_back (length market.pools) P Q.0 (omega (arith, r.group, r.before)))))

  none_deep : first_too_deep market ≡ None
  none_deep = subst (λ (m : ℕ). position (is_too_deep market) (range_with_len 0 m) ≡ None) (sym how_many) (no_number (is_too_deep market) (8 * groups) (λ P lt.
      not_below MAX_DEPTH (length (climb market (MAX_DEPTH + 1) P)) (let few = few_round (MAX_DEPTH + 1) P in omega (arith, few))))

  none_badly_nested : first_badly_nested market ≡ None
  none_badly_nested = none_numbered (is_badly_nested market) pool_numbered (8 * groups) (λ k lt.
      no_parent_where (λ Q. not (is_merit (rule_of_pool k) && is_merit (rule_of market Q.0))) (parent_of_pool k) (λ Q h.
      let r = parent_is k Q h in
      let inner = merit_from k (omega (arith, r.before, r.merit)) in
      let outer : is_merit (rule_of market Q.0) ≡ true = ap is_merit (rule_is Q.0 (omega (arith, lt, r.group))) ∙ merit_from Q.0 r.merit in
      rw (inner, outer) refl))

  pub no_nesting_fault : nesting_fault market ≡ None
  no_nesting_fault = rw (no_parent_out, no_ring, none_deep, none_badly_nested) refl
