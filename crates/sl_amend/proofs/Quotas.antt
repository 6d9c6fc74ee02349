-- The rules on parents and the trees of pools look at no quota.
use Rattle.std.proofs.Common.{◌≡◌, ◌∙◌, ◌<◌, ◌≤◌, ◌+◌, ◌&&◌, not, ℕ, zero, suc, Bool, false, List, [], ◌∷◌, map, set, length, get_or, nat_eq, nat_le, nat_lt, position, Option, Some, None, option_map, refl, sym, ap, arith, inl, inr, get_or-set_same, get_or-set_other, length-set}
use Rattle.std.proofs.lemmas.Bool.{cases_Bool, ltb-true}
use Rattle.std.proofs.lemmas.Bool.Decides.{eqb_tells}
use Rattle.std.specs.List.{list_any}
use Rattle.std.proofs.Math.ListN.{get_or-map}
use Rattle.std.proofs.lemmas.List.{map-set}
use Rattle.sl_types.specs.declared.kinds.Pool.{Pool}
use Rattle.sl_types.specs.declared.kinds.PoolId.{PoolId}
use Rattle.sl_types.specs.declared.kinds.Rule.{Rule}
use Rattle.sl_types.specs.declared.kinds.TheConstants.{MAX_DEPTH, MAX_QUOTA}
use Rattle.sl_types.specs.declared.unfit.Unfit.TheVariants.{QuotaRange}
use Rattle.sl_types.specs.Market.{market_of_pools, no_pool, climb, outward, parent_of, rule_of}
use Rattle.sl_types.specs.Rules.{is_merit, has_parent_where, has_quota_out}
use Rattle.sl_types.specs.Trees.{parent_or, outermost, tree_of}
use Rattle.sl_types.specs.Valid.{nesting_fault, quota_fault, first_parent_out, first_in_ring, first_too_deep, first_badly_nested}
use Rattle.sl_types.proofs.Lists.{position_map, first_none, none_fails}
use Rattle.sl_types.proofs.Alike.{position_within, numbers_alike}
use Rattle.sl_amend.proofs.Written.{set_same}

-- what a pool is without its quota
abbrev pub shape : Pool → Option PoolId × Rule
shape pool = (pool.parent, pool.rule)

outward_alike : (f g : ℕ → List ℕ) → ((P : ℕ) → f P ≡ g P) → (o : Option PoolId) → outward f o ≡ outward g o
outward_alike f g h None = refl
outward_alike f g h (Some Q) = h Q.0

parent_where_alike : (p q : PoolId → Bool) → ((Q : PoolId) → p Q ≡ q Q) → (o : Option PoolId) → has_parent_where p o ≡ has_parent_where q o
parent_where_alike p q h None = refl
parent_where_alike p q h (Some Q) = h Q

module _ (old new : List Pool) (shapes : map shape new ≡ map shape old) (sizes : length new ≡ length old) where
  shape_alike : (P : ℕ) → shape (get_or new P no_pool) ≡ shape (get_or old P no_pool)
  shape_alike P = sym (get_or-map shape new P no_pool) ∙ ap (λ xs. get_or xs P (shape no_pool)) shapes ∙ get_or-map shape old P no_pool

  pub parents : (P : ℕ) → parent_of (market_of_pools new) P ≡ parent_of (market_of_pools old) P
  parents P = ap (λ (s : Option PoolId × Rule). s.0) (shape_alike P)

  pub rules_of : (P : ℕ) → rule_of (market_of_pools new) P ≡ rule_of (market_of_pools old) P
  rules_of P = ap (λ (s : Option PoolId × Rule). s.1) (shape_alike P)

  climbs : (n P : ℕ) → climb (market_of_pools new) n P ≡ climb (market_of_pools old) n P
  unfolding climb
  climbs zero P = refl
  climbs (suc n) P =
      ap (λ (xs : List ℕ). P ∷ xs)
      (outward_alike (climb (market_of_pools new) n) (climb (market_of_pools old) n) (climbs n) (parent_of (market_of_pools new) P)
      ∙ ap (outward (climb (market_of_pools old) n)) (parents P))

  -- the first pool of which a test of its shape says so
  shaped : (h g : Option PoolId × Rule → Bool) → ((s : Option PoolId × Rule) → h s ≡ g s) → position (λ pool. h (shape pool)) new ≡ position (λ pool. g (shape pool)) old
  shaped h g same =
      sym (position_map shape h new) ∙ ap (λ xs. position h xs) shapes ∙ position_map shape h old
      ∙ position_within (λ pool. h (shape pool)) (λ pool. g (shape pool)) old (λ k d lt. same (shape (get_or old k d)))

  outs : first_parent_out (market_of_pools new) ≡ first_parent_out (market_of_pools old)
  outs = shaped (λ s. has_parent_where (λ Q. nat_le (length new) Q.0) s.0) (λ s. has_parent_where (λ Q. nat_le (length old) Q.0) s.0)
      (λ s. parent_where_alike (λ Q. nat_le (length new) Q.0) (λ Q. nat_le (length old) Q.0) (λ Q. ap (λ n. nat_le n Q.0) sizes) s.0)

  rings_at : (n P : ℕ) → list_any (λ Q. nat_eq Q P) (outward (climb (market_of_pools new) n) (parent_of (market_of_pools new) P))
      ≡ list_any (λ Q. nat_eq Q P) (outward (climb (market_of_pools old) n) (parent_of (market_of_pools old) P))
  rings_at n P =
      ap (λ (xs : List ℕ). list_any (λ Q. nat_eq Q P) xs)
      (outward_alike (climb (market_of_pools new) n) (climb (market_of_pools old) n) (climbs n) (parent_of (market_of_pools new) P)
      ∙ ap (outward (climb (market_of_pools old) n)) (parents P))

  rings : first_in_ring (market_of_pools new) ≡ first_in_ring (market_of_pools old)
  rings = rw sizes (numbers_alike _ _ (length old) (λ P lt. rings_at (length old) P))

  depths : first_too_deep (market_of_pools new) ≡ first_too_deep (market_of_pools old)
  depths = rw sizes (numbers_alike _ _ (length old) (λ P lt. ap (λ (xs : List ℕ). nat_lt MAX_DEPTH (length xs)) (climbs (MAX_DEPTH + 1) P)))

  nestings : first_badly_nested (market_of_pools new) ≡ first_badly_nested (market_of_pools old)
  nestings = shaped (λ s. has_parent_where (λ Q. not (is_merit s.1 && is_merit (rule_of (market_of_pools new) Q.0))) s.0)
      (λ s. has_parent_where (λ Q. not (is_merit s.1 && is_merit (rule_of (market_of_pools old) Q.0))) s.0)
      (λ s. parent_where_alike _ _ (λ Q. ap (λ r. not (is_merit s.1 && is_merit r)) (rules_of Q.0)) s.0)

  pub nesting_same : nesting_fault (market_of_pools new) ≡ nesting_fault (market_of_pools old)
  nesting_same = rw (outs, rings, depths, nestings) refl

  outermost_same : (n P : ℕ) → outermost new n P ≡ outermost old n P
  unfolding outermost
  outermost_same zero P = refl
  outermost_same (suc n) P =
      let rest = outermost_same n P in
      rw rest (ap (parent_or (outermost old n P)) (parents (outermost old n P)))

  tree_same : (P : ℕ) → tree_of new P ≡ tree_of old P
  tree_same P = rw (rules_of P, outermost_same MAX_DEPTH P) refl

  pub trees_same : (progs : List PoolId) → map (λ (Q : PoolId). tree_of new Q.0) progs ≡ map (λ (Q : PoolId). tree_of old Q.0) progs
  trees_same [] = refl
  trees_same (Q ∷ Qs) = rw (tree_same Q.0, trees_same Qs) refl

-- another quota leaves the shapes as they are
pub quota_shapes : (pools : List Pool) (P : ℕ) (pool : Pool) → P < length pools → shape pool ≡ shape (get_or pools P no_pool) → map shape (set pools P pool) ≡ map shape pools
quota_shapes pools P pool lt same =
    let wide : P < length (map shape pools) = omega (arith, lt, Rattle.std.proofs.lemmas.List.length-map pools shape) in
    map-set shape pools P pool ∙ ap (λ s. set (map shape pools) P s) (same ∙ sym (get_or-map shape pools P no_pool)) ∙ set_same (map shape pools) P (shape no_pool) wide

-- a number that isn't below another
not_below : (a b : ℕ) → b ≤ a → nat_lt a b ≡ false
not_below a b le = elim (cases_Bool (nat_lt a b)) [
  | inl e ↦ let lt = ltb-true a b e in absurd (omega (arith, lt, le))
  | inr e ↦ e
]

none_out : Option ℕ → Type 0
none_out o = option_map (λ i. QuotaRange (record { 0 = i })) o ≡ None

first_out : (o : Option ℕ) → none_out o → o ≡ None
unfolding none_out
first_out None h = refl
first_out (Some i) h = let no : None ≡ Some (QuotaRange (record { 0 = i })) = sym h in cc no

-- quotas stay in their range where the new one is in it
pub quotas_set : (pools : List Pool) (P : ℕ) (pool : Pool) → quota_fault (market_of_pools pools) ≡ None → 1 ≤ pool.quota → pool.quota ≤ MAX_QUOTA
    → quota_fault (market_of_pools (set pools P pool)) ≡ None
unfolding none_out
quotas_set pools P pool h low high =
    let before = first_out (position has_quota_out pools) h in
    let a = not_below pool.quota 1 low in
    let b = not_below MAX_QUOTA pool.quota high in
    let here : has_quota_out pool ≡ false = rw (a, b) refl in
    let after = first_none has_quota_out (set pools P pool) no_pool (λ k lt.
    let sizes = length-set pools P pool in
    let inside : k < length pools = omega (arith, lt, sizes) in
    elim (eqb_tells k P) [
      | inl e ↦
          let at : get_or (set pools P pool) k no_pool ≡ pool = ap (λ (n : ℕ). get_or (set pools P pool) n no_pool) e.1 ∙ get_or-set_same pools P pool no_pool (omega (arith, inside, e.1)) in
          ap has_quota_out at ∙ here
      | inr e ↦ ap has_quota_out (get_or-set_other pools P k pool no_pool e.1) ∙ none_fails has_quota_out pools before k no_pool inside
    ]) in
    rw after refl
