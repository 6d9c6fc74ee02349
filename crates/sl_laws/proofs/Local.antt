-- Whether a raise is justified is local to the feeding pools.
use Rattle.std.proofs.Common.{◌≡◌, ℕ, zero, suc, ◌+◌, ◌<◌, ◌≤◌, Bool, true, false, ◌&&◌, ◌||◌, List, [], ◌∷◌, length, filter, refl, sym, ap, ◌∙◌, arith, inl, inr, true≢false, min, nat_eq, nat_le, subst, eqb-true}
use Rattle.std.proofs.lemmas.Bool.{cases_Bool, or_parts, or_cases, or_left, or_right, and_from, and_parts}
use Rattle.std.specs.List.{list_any, range_with_len}
use Rattle.sl_types.specs.declared.kinds.Entry.{Entry}
use Rattle.sl_types.specs.declared.kinds.Rule.{Rule}
use Rattle.sl_types.specs.declared.kinds.Rule.TheVariants.{H, L, Merit}
use Rattle.sl_types.specs.declared.kinds.TheConstants.{MAX_DEPTH}
use Rattle.sl_types.specs.Market.{Market, pool_of, quota_of, rule_of, parent_of, children_of, chain_of, lies_in}
use Rattle.sl_types.specs.WellFormed.{IsWellFormed}
use Rattle.sl_laws.specs.Limits.{Limits, with_limit, effective_limit, is_eligible, admitted_choice, demand_within, capped_demand, admitted_directly, passes}
use Rattle.sl_laws.specs.Stable.{IsJustifiedBy, IsSettled, Feeds, leads, is_choice_in}
use Rattle.sl_laws.specs.Laws.{IsScorePool, IsLocal, StaysSettled}
use Rattle.sl_laws.proofs.Choices.{none_passes}
use Rattle.sl_laws.proofs.Effective.{greatest_more, with_limit_here, effective_alone, among}
use Rattle.sl_laws.proofs.Score.{admitted_alike, with_alike, local_by, justified_below}
use Rattle.sl_laws.proofs.Lists.{sum_by_filter_same, sum_by_zero}
use Rattle.sl_laws.proofs.Nest.{is_child, depth, own_round, depth_child, lies_own, lies_cases, lies_child}
use Rattle.sl_laws.proofs.Parts.{has_parent}

abbrev directly : Market → ℕ → ℕ → Entry → Bool
directly market D x e = nat_eq (pool_of market e) D && nat_le x e.score

module _ (market : Market) (ok : IsWellFormed market) where
  lies_on : (n C P Q : ℕ) → depth market C ≤ n → lies_in market C P ≡ true → lies_in market P Q ≡ true → lies_in market C Q ≡ true
  lies_on zero C P Q h in_P up = let a = ap length (own_round market C) in absurd (omega (arith, a, h))
  lies_on (suc n) C P Q h in_P up = elim (has_parent market C (parent_of market C) refl) [
    | inl top ↦
        let e : nat_eq C P || false ≡ true = sym (ap (among P) top.0) ∙ in_P in
        elim (or_cases (nat_eq C P) false e) [
          | inl same ↦ subst (λ (D : ℕ). lies_in market D Q ≡ true) (sym (eqb-true C P same)) up
          | inr never ↦ absurd (true≢false (sym never))
        ]
    | inr above ↦
        let R : ℕ = above.0 in
        let d = depth_child market ok R C above.1 in
        elim (lies_cases market ok R C P above.1 in_P) [
          | inl same ↦ subst (λ (D : ℕ). lies_in market D Q ≡ true) (sym same) up
          | inr later ↦ lies_child market ok R C Q above.1 (lies_on n R P Q (omega (arith, d, h)) later up)
        ]
  ]

  -- a pool inside P lies in each pool that P lies in
  pub lies_trans : (C P Q : ℕ) → lies_in market C P ≡ true → lies_in market P Q ≡ true → lies_in market C Q ≡ true
  lies_trans C P Q in_P up = lies_on (depth market C) C P Q (omega arith) in_P up

  directly_in : (P D x : ℕ) → lies_in market D P ≡ true → (e : Entry) → directly market D x e ≡ true → is_choice_in market P e ≡ true
  directly_in P D x within e h = subst (λ (C : ℕ). lies_in market C P ≡ true) (sym (eqb-true (pool_of market e) D (and_parts (nat_eq (pool_of market e) D) (nat_le x e.score) h).0)) within

  within_alike : (t u : Limits) (P x : ℕ) → t P ≡ u P → ((Q : ℕ) → Feeds market Q P → t Q ≡ u Q) → (n D : ℕ) → lies_in market D P ≡ true → demand_within market t x n D ≡ demand_within market u x n D
  unfolding demand_within
  within_alike t u P x own fed zero D within = refl
  within_alike t u P x own fed (suc n) D within =
      let inner = sum_by_filter_same (is_child market D) (λ C. min (quota_of market C) (demand_within market t x n C)) (λ C. min (quota_of market C) (demand_within market u x n C)) (range_with_len 0 (length market.pools))
      (λ C e. ap (min (quota_of market C)) (within_alike t u P x own fed n C (lies_child market ok D C P e within))) in
      let direct : length (admitted_directly market t D x) ≡ length (admitted_directly market u D x) = ap length (admitted_alike market t u P own fed (directly market D x) (directly_in P D x within)) in
      omega (arith, inner, direct)

  -- the capped demand depends on the feeding pools alone
  pub capped_alike : (t u : Limits) (P x : ℕ) → ((Q : ℕ) → Feeds market Q P → t Q ≡ u Q) → capped_demand market (with_limit t P 0) P x ≡ capped_demand market (with_limit u P 0) P x
  unfolding capped_demand
  capped_alike t u P x fed = within_alike (with_limit t P 0) (with_limit u P 0) P x (with_limit_here t P 0 ∙ sym (with_limit_here u P 0)) (with_alike market t u P 0 fed) MAX_DEPTH P (lies_own market P)

  local_at : (t u : Limits) (P x : ℕ) → ((Q : ℕ) → Feeds market Q P → t Q ≡ u Q) → (rule : Rule) → IsJustifiedBy rule market t P x → IsJustifiedBy rule market u P x
  local_at t u P x fed H j = local_by market t u P x fed H (λ e. cc) j
  local_at t u P x fed L j = local_by market t u P x fed L (λ e. cc) j
  local_at t u P x fed Merit j = let same = capped_alike t u P x fed in omega (arith, same, j)

  -- where nobody applies to P, the demand is none
  filter_none : (p : List Entry → Bool) (xs : List (List Entry)) → (g : List Entry → Bool) → ((x : List Entry) → g x ≡ false → p x ≡ false) → list_any g xs ≡ false → filter p xs ≡ []
  filter_none p [] g out never = refl
  filter_none p (x ∷ xs) g out never =
      let parts = or_parts (g x) (list_any g xs) never in
      rw (out x parts.0) (filter_none p xs g out parts.1)

  within_none : (t : Limits) (P x : ℕ) → list_any (list_any (is_choice_in market P)) market.lists ≡ false → (n D : ℕ) → lies_in market D P ≡ true → demand_within market t x n D ≡ 0
  unfolding demand_within
  within_none t P x never zero D within = refl
  within_none t P x never (suc n) D within =
      let inner = sum_by_filter_same (is_child market D) (λ C. min (quota_of market C) (demand_within market t x n C)) (λ C. 0) (range_with_len 0 (length market.pools))
      (λ C e. let z = within_none t P x never n C (lies_child market ok D C P e within) in omega (arith, z)) in
      let zeros = sum_by_zero (children_of market D) in
      let direct : length (admitted_directly market t D x) ≡ 0 = ap length (filter_none (λ choices. passes (directly market D x) (admitted_choice market t choices)) market.lists (list_any (is_choice_in market P))
      (λ choices out. none_passes (directly market D x) (is_choice_in market P) (is_eligible market t) (directly_in P D x within) choices out) never) in
      omega (arith, inner, zeros, direct)

  capped_none : (t : Limits) (P x : ℕ) → list_any (list_any (is_choice_in market P)) market.lists ≡ false → capped_demand market t P x ≡ 0
  unfolding capped_demand
  capped_none t P x never = within_none t P x never MAX_DEPTH P (lies_own market P)

  -- where somebody applies to P, each pool round P feeds it
  leads_up : (P Q : ℕ) → lies_in market P Q ≡ true → (es : List Entry) → list_any (is_choice_in market P) es ≡ true → leads market Q P es ≡ true
  leads_up P Q up [] h = h
  leads_up P Q up (e ∷ es) h = elim (or_cases (is_choice_in market P e) (list_any (is_choice_in market P) es) h) [
    | inl here ↦ or_left (is_choice_in market Q e && list_any (is_choice_in market P) (e ∷ es)) (leads market Q P es)
        (and_from (is_choice_in market Q e) (list_any (is_choice_in market P) (e ∷ es)) (lies_trans (pool_of market e) P Q here up) h)
    | inr later ↦ or_right (is_choice_in market Q e && list_any (is_choice_in market P) (e ∷ es)) (leads market Q P es) (leads_up P Q up es later)
  ]

  any_more : (p q : List Entry → Bool) (xs : List (List Entry)) → ((x : List Entry) → p x ≡ true → q x ≡ true) → list_any p xs ≡ true → list_any q xs ≡ true
  any_more p q [] more h = h
  any_more p q (x ∷ xs) more h = elim (or_cases (p x) (list_any p xs) h) [
    | inl here ↦ or_left (q x) (list_any q xs) (more x here)
    | inr later ↦ or_right (q x) (list_any q xs) (any_more p q xs more later)
  ]

  -- where somebody applies to P, each pool round P feeds it
  pub round_feeds : (P Q : ℕ) → list_any (list_any (is_choice_in market P)) market.lists ≡ true → lies_in market P Q ≡ true → nat_eq Q P ≡ false → Feeds market Q P
  round_feeds P Q applied up other = rw other (any_more (list_any (is_choice_in market P)) (leads market Q P) market.lists (leads_up P Q up) applied)

  below_settled : (t u : Limits) (P : ℕ) → ((Q : ℕ) → Feeds market Q P → t Q ≡ u Q) → effective_limit market t P ≤ effective_limit market u P → IsSettled market t P → IsSettled market u P
  below_settled t u P fed low settled j = settled (justified_below market ok t P (effective_limit market u P + 1) (effective_limit market t P + 1) (omega (arith, low)) (local_at u t P (effective_limit market u P + 1) (λ Q feed. sym (fed Q feed)) (rule_of market P) j))

  score_settled : (t u : Limits) (P : ℕ) → IsScorePool market P → ((Q : ℕ) → Feeds market Q P → t Q ≡ u Q) → t P ≤ u P → IsSettled market t P → IsSettled market u P
  score_settled t u P score fed up settled = let a = effective_alone market ok P score t in let b = effective_alone market ok P score u in below_settled t u P fed (omega (arith, a, b, up)) settled

  settled_by : (t u : Limits) (P : ℕ) → P < length market.pools → ((Q : ℕ) → Feeds market Q P → t Q ≡ u Q) → t P ≤ u P → IsSettled market t P → (rule : Rule) → rule_of market P ≡ rule → IsSettled market u P
  settled_by t u P P_in fed up settled H is = score_settled t u P (λ m. let h : H ≡ Merit = sym is ∙ m in cc) fed up settled
  settled_by t u P P_in fed up settled L is = score_settled t u P (λ m. let h : L ≡ Merit = sym is ∙ m in cc) fed up settled
  settled_by t u P P_in fed up settled Merit is = elim (cases_Bool (list_any (list_any (is_choice_in market P)) market.lists)) [
    | inl applied ↦ below_settled t u P fed (greatest_more t u (chain_of market P) (λ Q round. elim (cases_Bool (nat_eq Q P)) [
      | inl same ↦ subst (λ (R : ℕ). t R ≤ u R) (sym (eqb-true Q P same)) up
      | inr other ↦ let e = fed Q (round_feeds P Q applied round other) in omega (arith, e)
    ])) settled
    | inr never ↦ λ j.
        let z = capped_none (with_limit u P 0) P (effective_limit market u P + 1) never in
        let q = ok.quotas P P_in in
        let k = subst (λ (rule : Rule). IsJustifiedBy rule market u P (effective_limit market u P + 1)) is j in
        absurd (omega (arith, z, q, k))
  ]

-- whether a raise is justified is local to the feeding pools
pub is_local : (market : Market) → IsWellFormed market → IsLocal market
is_local market ok t u P x fed j = local_at market ok t u P x fed (rule_of market P) j

-- a settled pool stays settled where its own number rises and the numbers of its feeding pools stay
pub stays_settled : (market : Market) → IsWellFormed market → StaysSettled market
stays_settled market ok t u P P_in fed up settled = settled_by market ok t u P P_in fed up settled (rule_of market P) refl
