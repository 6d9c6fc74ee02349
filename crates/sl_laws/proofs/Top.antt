-- No raise to more than one point above the greatest score is justified.
use Rattle.std.proofs.Common.{◌≡◌, ◌+◌, ℕ, zero, suc, ◌-◌, ◌<◌, ◌≤◌, Bool, true, ◌&&◌, List, [], ◌∷◌, get_or, length, filter, All, Some, refl, sym, ap, ◌∙◌, arith, inl, inr, min, nat_eq, nat_le, leb-true}
use Rattle.std.proofs.lemmas.Bool.{cases_Bool, and_parts, cases_lt}
use Rattle.std.proofs.lemmas.List.Elements.{All-head, All-tail, All-contains, All-from_get_or}
use Rattle.std.specs.List.{range_with_len}
use Rattle.sl_types.specs.declared.kinds.Entry.{Entry}
use Rattle.sl_types.specs.declared.kinds.Rule.{Rule}
use Rattle.sl_types.specs.declared.kinds.Rule.TheVariants.{H, L, Merit}
use Rattle.sl_types.specs.declared.kinds.TheConstants.{MAX_DEPTH, MAX_SCORE}
use Rattle.sl_types.specs.Market.{Market, pool_of, quota_of, rule_of, children_of, lies_in}
use Rattle.sl_types.specs.WellFormed.{IsWellFormed}
use Rattle.sl_laws.specs.Limits.{Limits, with_limit, effective_limit, is_eligible, is_admitted_in, admitted_choice, demand, demand_within, capped_demand, admitted_directly, passes}
use Rattle.sl_laws.specs.Stable.{IsJustifiedBy, IsSettled}
use Rattle.sl_laws.specs.Laws.{IsScorePool, JustifiedHasTop}
use Rattle.sl_laws.proofs.Effective.{with_limit_here, effective_alone, inside_alone}
use Rattle.sl_laws.proofs.Lists.{find_is, sum_by_filter_same, sum_by_zero}
use Rattle.sl_laws.proofs.Nest.{is_child}
use Rattle.sl_laws.proofs.Direct.{passes_some}

none_left : (p : List Entry → Bool) (xs : List (List Entry)) → All (λ x. p x ≡ true → ⊥) xs → length (filter p xs) ≡ 0
none_left p [] all = refl
none_left p (x ∷ xs) all = elim (cases_Bool (p x)) [
  | inl hit ↦ absurd (All-head (λ x. p x ≡ true → ⊥) x xs all hit)
  | inr miss ↦ rw miss (none_left p xs (All-tail (λ x. p x ≡ true → ⊥) x xs all))
]

module _ (market : Market) (ok : IsWellFormed market) where
  score_low : (a : ℕ) → a < length market.lists → (t : Limits) (e : Entry) → admitted_choice market t (get_or market.lists a []) ≡ Some e → e.score ≤ MAX_SCORE
  score_low a a_in t e is = All-contains (λ e. e.score ≤ MAX_SCORE) (get_or market.lists a []) e (ok.scores a [] a_in) (find_is (is_eligible market t) (get_or market.lists a []) e is).0

  demand_none : (t : Limits) (P y : ℕ) → IsScorePool market P → MAX_SCORE < y → demand market t P y ≡ 0
  demand_none t P y score high = let u = with_limit t P y in none_left (is_admitted_in market u P) market.lists (All-from_get_or (λ cs. is_admitted_in market u P cs ≡ true → ⊥) market.lists [] (λ a a_in h.
      let w = passes_some (λ (e : Entry). lies_in market (pool_of market e) P) (admitted_choice market u (get_or market.lists a [])) h in
      let able = leb-true (effective_limit market u (pool_of market w.0)) w.0.score (find_is (is_eligible market u) (get_or market.lists a []) w.0 w.1).1 in
      let low = score_low a a_in u w.0 w.1 in
      let is : effective_limit market u (pool_of market w.0) ≡ y = ap (effective_limit market u) (inside_alone market ok P score (pool_of market w.0) w.2) ∙ (effective_alone market ok P score u ∙ with_limit_here t P y) in
      omega (arith, able, low, is, high)))

  within_none : (t : Limits) (x : ℕ) → MAX_SCORE < x → (n P : ℕ) → demand_within market t x n P ≡ 0
  unfolding demand_within
  within_none t x high zero P = refl
  within_none t x high (suc n) P =
      let inner = sum_by_filter_same (is_child market P) (λ C. min (quota_of market C) (demand_within market t x n C)) (λ C. 0) (range_with_len 0 (length market.pools)) (λ C e. let z = within_none t x high n C in omega (arith, z)) in
      let zeros = sum_by_zero (children_of market P) in
      let direct : length (admitted_directly market t P x) ≡ 0 = none_left (λ choices. passes (λ e. nat_eq (pool_of market e) P && nat_le x e.score) (admitted_choice market t choices)) market.lists
      (All-from_get_or (λ choices. passes (λ e. nat_eq (pool_of market e) P && nat_le x e.score) (admitted_choice market t choices) ≡ true → ⊥) market.lists [] (λ a a_in h.
      let w = passes_some (λ (e : Entry). nat_eq (pool_of market e) P && nat_le x e.score) (admitted_choice market t (get_or market.lists a [])) h in
      let low = score_low a a_in t w.0 w.1 in
      let up = leb-true x w.0.score (and_parts (nat_eq (pool_of market w.0) P) (nat_le x w.0.score) w.2).1 in
      omega (arith, low, up, high))) in
      omega (arith, inner, zeros, direct)

  capped_none : (t : Limits) (P x : ℕ) → MAX_SCORE < x → capped_demand market t P x ≡ 0
  unfolding capped_demand
  capped_none t P x high = within_none t x high MAX_DEPTH P

  top_at : (t : Limits) (P x : ℕ) → P < length market.pools → (MAX_SCORE + 1) < x → (rule : Rule) → rule_of market P ≡ rule → IsJustifiedBy rule market t P x → ⊥
  top_at t P x P_in high H is j = let z = demand_none t P (x - 1) (λ m. let h : H ≡ Merit = sym is ∙ m in cc) (omega (arith, high)) in omega (arith, z, j)
  top_at t P x P_in high L is j = let z = demand_none t P (x - 1) (λ m. let h : L ≡ Merit = sym is ∙ m in cc) (omega (arith, high)) in let k = j.0 in omega (arith, z, k)
  top_at t P x P_in high Merit is j = let z = capped_none (with_limit t P 0) P x (omega (arith, high)) in let q = ok.quotas P P_in in omega (arith, z, j, q)

-- no raise above one point more than the greatest score is justified
pub justified_has_top : (market : Market) → IsWellFormed market → JustifiedHasTop market
justified_has_top market ok t P x P_in j = elim (cases_lt (MAX_SCORE + 1) x) [
  | inl high ↦ absurd (top_at market ok t P x P_in high (rule_of market P) refl j)
  | inr fine ↦ fine
]

-- a pool is settled where its effective limit is above the greatest score
pub settled_high : (market : Market) → IsWellFormed market → (t : Limits) (P : ℕ) → P < length market.pools → MAX_SCORE < effective_limit market t P → IsSettled market t P
settled_high market ok t P P_in high j = let top = justified_has_top market ok t P (effective_limit market t P + 1) P_in j in omega (arith, top, high)
