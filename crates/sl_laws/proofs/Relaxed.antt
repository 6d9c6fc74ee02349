-- Limits under L are at most those under H: the demand is the same, and where a raise is justified under L it is under H.
use Rattle.std.proofs.Common.{◌≡◌, ◌∙◌, ◌⊎◌, ℕ, zero, suc, ◌+◌, ◌-◌, ◌<◌, ◌&&◌, List, [], ◌∷◌, get_or, length, min, nat_eq, nat_le, find, filter, sum_by, Option, refl, sym, ap, subst, arith, inl, inr}
use Rattle.std.specs.List.{list_any, range_with_len}
use Rattle.std.proofs.lemmas.Bool.{cases_lt}
use Rattle.std.proofs.lemmas.List.{get_or_past}
use Rattle.sl_types.specs.declared.kinds.Entry.{Entry}
use Rattle.sl_types.specs.declared.kinds.Pool.{Pool}
use Rattle.sl_types.specs.declared.kinds.PoolId.{PoolId}
use Rattle.sl_types.specs.declared.kinds.Raise.{Raise}
use Rattle.sl_types.specs.declared.kinds.Rule.{Rule}
use Rattle.sl_types.specs.declared.kinds.Rule.TheVariants.{H, L, Merit}
use Rattle.sl_types.specs.declared.kinds.TheConstants.{MAX_DEPTH}
use Rattle.sl_types.specs.Market.{Market, no_pool, pool_at, quota_of, rule_of, parent_of, is_parent, climb, outward, chain_of, children_of}
use Rattle.sl_types.specs.WellFormed.{IsWellFormed}
use Rattle.sl_laws.specs.Limits.{Limits, with_limit, greatest_of, effective_limit, passes, count_in, admitted_directly, demand_within, capped_demand}
use Rattle.sl_laws.specs.Stable.{IsJustified, IsJustifiedBy}
use Rattle.sl_laws.specs.Raises.{IsSound, IsVoid, EachRaise, zeros, after_raise, limits_after}
use Rattle.sl_laws.specs.Laws.{IsRelaxed, UnderLIsLower}
use Rattle.sl_laws.proofs.AllRules.{sound_passes_none, proves_the_least}
use Rattle.sl_laws.proofs.Least.{at_most_by, sound_by_replay}
use Rattle.sl_laws.proofs.Settling.{some_list_proves}

-- the count, by the pools round each pool, the pools of the programmes, and the lists
abbrev count_by : (ℕ → List ℕ) → List PoolId → List (List Entry) → Limits → ℕ → ℕ
count_by chain progs lists t P =
    let pool : Entry → ℕ = λ e. (get_or progs e.prog.0 (record { 0 = 0 })).0 in
    length (filter (λ choices. passes (λ e. list_any (λ Q. nat_eq Q P) (chain (pool e))) (find (λ e. nat_le (greatest_of t (chain (pool e))) e.score) choices)) lists)

-- how many are admitted directly, by the same
abbrev directly_by : (ℕ → List ℕ) → List PoolId → List (List Entry) → Limits → ℕ → ℕ → ℕ
directly_by chain progs lists t P x =
    let pool : Entry → ℕ = λ e. (get_or progs e.prog.0 (record { 0 = 0 })).0 in
    length (filter (λ choices. passes (λ e. nat_eq (pool e) P && nat_le x e.score) (find (λ e. nat_le (greatest_of t (chain (pool e))) e.score) choices)) lists)

module _ (market relaxed : Market) (turned : IsRelaxed market relaxed) where
  same_pool : (P : ℕ) → (quota_of relaxed P ≡ quota_of market P) × (parent_of relaxed P ≡ parent_of market P)
  same_pool P = elim (cases_lt P (length market.pools)) [
    | inl P_in ↦ let pool = turned.pools P P_in in (pool.quota, pool.parent)
    | inr past ↦
        let here = get_or_past market.pools P no_pool past in
        let there = get_or_past relaxed.pools P no_pool (omega (arith, past, turned.each)) in
        let same : pool_at relaxed P ≡ pool_at market P = there ∙ sym here in
        (ap (λ (p : Pool). p.quota) same, ap (λ (p : Pool). p.parent) same)
  ]

  same_climb : (n P : ℕ) → climb relaxed n P ≡ climb market n P
  unfolding climb
  same_climb zero P = refl
  same_climb (suc n) P =
      let above : climb relaxed n ≡ climb market n = λ i Q. same_climb n Q i in
      ap (λ (f : ℕ → List ℕ). P ∷ outward f (parent_of relaxed P)) above ∙ ap (λ (o : Option PoolId). P ∷ outward (climb market n) o) (same_pool P).1

  same_chain : chain_of relaxed ≡ chain_of market
  unfolding chain_of
  same_chain = λ i P. same_climb MAX_DEPTH P i

  same_effective : (t : Limits) (P : ℕ) → effective_limit relaxed t P ≡ effective_limit market t P
  same_effective t P = ap (λ (chain : ℕ → List ℕ). greatest_of t (chain P)) same_chain

  same_count : (t : Limits) (P : ℕ) → count_in relaxed t P ≡ count_in market t P
  same_count t P =
      ap (λ (chain : ℕ → List ℕ). count_by chain relaxed.progs relaxed.lists t P) same_chain
      ∙ ap (λ (progs : List PoolId). count_by (chain_of market) progs relaxed.lists t P) turned.progs
      ∙ ap (λ (lists : List (List Entry)). count_by (chain_of market) market.progs lists t P) turned.lists

  same_directly : (t : Limits) (P x : ℕ) → length (admitted_directly relaxed t P x) ≡ length (admitted_directly market t P x)
  same_directly t P x =
      ap (λ (chain : ℕ → List ℕ). directly_by chain relaxed.progs relaxed.lists t P x) same_chain
      ∙ ap (λ (progs : List PoolId). directly_by (chain_of market) progs relaxed.lists t P x) turned.progs
      ∙ ap (λ (lists : List (List Entry)). directly_by (chain_of market) market.progs lists t P x) turned.lists

  same_children : (P : ℕ) → children_of relaxed P ≡ children_of market P
  same_children P =
      let parents : parent_of relaxed ≡ parent_of market = λ i C. (same_pool C).1 i in
      ap (λ (parent : ℕ → Option PoolId). filter (λ C. is_parent P (parent C)) (range_with_len 0 (length relaxed.pools))) parents
      ∙ ap (λ (n : ℕ). filter (λ C. is_parent P (parent_of market C)) (range_with_len 0 n)) turned.each

  same_within : (t : Limits) (x n P : ℕ) → demand_within relaxed t x n P ≡ demand_within market t x n P
  unfolding demand_within
  same_within t x zero P = refl
  same_within t x (suc n) P =
      let terms : (λ C. min (quota_of relaxed C) (demand_within relaxed t x n C)) ≡ (λ C. min (quota_of market C) (demand_within market t x n C)) =
      λ i C. min ((same_pool C).0 i) (same_within t x n C i) in
      ap (λ (f : ℕ → ℕ). sum_by f (children_of relaxed P) + length (admitted_directly relaxed t P x)) terms
      ∙ ap (λ (Cs : List ℕ). sum_by (λ C. min (quota_of market C) (demand_within market t x n C)) Cs + length (admitted_directly relaxed t P x)) (same_children P)
      ∙ ap (λ (n' : ℕ). sum_by (λ C. min (quota_of market C) (demand_within market t x n C)) (children_of market P) + n') (same_directly t P x)

  same_capped : (t : Limits) (P x : ℕ) → capped_demand relaxed t P x ≡ capped_demand market t P x
  unfolding capped_demand
  same_capped t P x = same_within t x MAX_DEPTH P

  -- where a raise is justified by a rule, it is by the same rule before
  by_rule : (rule : Rule) (t : Limits) (P x : ℕ) → IsJustifiedBy rule relaxed t P x → IsJustifiedBy rule market t P x
  by_rule H t P x j = let quota = (same_pool P).0 in let count = same_count (with_limit t P (x - 1)) P in omega (arith, j, quota, count)
  by_rule L t P x j =
      let quota = (same_pool P).0 in
      let below = same_count (with_limit t P (x - 1)) P in
      let here = same_count (with_limit t P x) P in
      (omega (arith, j.0, quota, below), omega (arith, j.1, quota, here))
  by_rule Merit t P x j = let quota = (same_pool P).0 in let count = same_capped (with_limit t P 0) P x in omega (arith, j, quota, count)

  -- where a raise is justified, it was justified before
  was_justified : (t : Limits) (P x : ℕ) → P < length market.pools → IsJustified relaxed t P x → IsJustified market t P x
  was_justified t P x P_in j = elim (turned.pools P P_in).rule [
    | inl same ↦ by_rule (rule_of market P) t P x (subst (λ (rule : Rule). IsJustifiedBy rule relaxed t P x) same j)
    | inr other ↦
        let under_l : IsJustifiedBy L relaxed t P x = subst (λ (rule : Rule). IsJustifiedBy rule relaxed t P x) other.1 j in
        subst (λ (rule : Rule). IsJustifiedBy rule market t P x) (sym other.0) (by_rule H t P x under_l.0)
  ]

  -- a sound list was sound before
  was_sound : (t : Limits) (c : List Raise) → EachRaise relaxed (λ t r. IsVoid relaxed t r ⊎ IsJustified relaxed t r.pool.0 r.limit) t c
      → EachRaise market (λ t r. IsVoid market t r ⊎ IsJustified market t r.pool.0 r.limit) t c
  was_sound t [] each = tt
  was_sound t (r ∷ c) each =
      let P_in : r.pool.0 < length market.pools = omega (arith, each.0, turned.each) in
      let same = same_effective t r.pool.0 in
      let fair : IsVoid market t r ⊎ IsJustified market t r.pool.0 r.limit = elim each.1 [
        | inl void ↦ inl (omega (arith, void, same))
        | inr just ↦ inr (was_justified t r.pool.0 r.limit P_in just)
      ] in
      (P_in, fair, was_sound (after_raise t r) c each.2)

-- limits under L are at most those under H
pub under_l_is_lower : (market relaxed : Market) → IsWellFormed market → IsWellFormed relaxed → UnderLIsLower market relaxed
under_l_is_lower market relaxed ok relaxed_ok turned l m least_l least_m P P_in =
    let proof = some_list_proves relaxed relaxed_ok in
    let c = proof.0 in
    let least = proves_the_least relaxed relaxed_ok c (effective_limit relaxed (limits_after c)) proof.1 in
    let sound : IsSound market c = was_sound market relaxed turned zeros c (sound_by_replay relaxed zeros c proof.1.0) in
    let passes_none = at_most_by market (limits_after c) l (λ Q. sound_passes_none market ok c sound l least_l.0 Q) P P_in in
    let a = least_m.1 (effective_limit relaxed (limits_after c)) least.0 P (omega (arith, P_in, turned.each)) in
    let b = same_effective market relaxed turned (limits_after c) P in
    let d = (least_l.0 P P_in).0 in
    omega (arith, a, b, passes_none, d)
