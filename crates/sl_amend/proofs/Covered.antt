-- What an untouched pool was asked for it is asked for still: whoever was admitted there is, with the same choices.
use Rattle.std.proofs.Common.{◌≡◌, ℕ, zero, suc, ◌-◌, ◌<◌, ◌≤◌, Bool, true, false, ◌&&◌, not, [], length, nat_eq, nat_le, filter, sum_by, min, sym, ap, ◌∙◌, subst, inl, inr, arith, true≢false, eqb-true}
use Rattle.std.proofs.lemmas.Bool.{cases_Bool, cases_lt, and_parts, and_from, or_parts, or_left, not-false, ltb-false}
use Rattle.std.proofs.lemmas.List.{get_or_past}
use Rattle.std.specs.List.{list_any, range_with_len}
use Rattle.sl_types.specs.declared.kinds.Entry.{Entry}
use Rattle.sl_types.specs.declared.kinds.Pool.{Pool}
use Rattle.sl_types.specs.declared.kinds.Rule.{Rule}
use Rattle.sl_types.specs.declared.kinds.Rule.TheVariants.{H, L, Merit}
use Rattle.sl_types.specs.declared.kinds.TheConstants.{MAX_DEPTH}
use Rattle.sl_types.specs.Market.{Market, no_pool, pool_of, quota_of, rule_of, list_of, lies_in, chain_of}
use Rattle.sl_types.specs.WellFormed.{IsWellFormed}
use Rattle.sl_types.proofs.Lists.{any_at}
use Rattle.sl_laws.specs.Limits.{Limits, with_limit, is_eligible, admitted_choice, admitted_directly, demand, demand_within, capped_demand, passes}
use Rattle.sl_laws.specs.Stable.{IsJustified, IsJustifiedBy, Feeds, is_choice_in}
use Rattle.sl_laws.proofs.Choices.{none_passes}
use Rattle.sl_laws.proofs.Lists.{sum_by_filter_le}
use Rattle.sl_laws.proofs.Nest.{is_child, lies_own, lies_child}
use Rattle.sl_laws.proofs.Local.{is_local}
use Rattle.sl_contend.specs.Contention.{has_choice_in}
use Rattle.sl_amend.specs.Amended.{Origins, IsAmended, is_origin, are_same_choices, is_still, is_changed, is_touched_by_choice, applies_now, applies_in_either, is_touched_by_quota, is_touched, are_in_one_tree, has_other_quota}
use Rattle.sl_amend.proofs.Tested.{any_more, any_number, covered}
use Rattle.sl_amend.proofs.Same.{same_rule, same_children, same_pool_of, same_choice_in, same_admitted}

module _ (old new : Market) (old_ok : IsWellFormed old) (amended : IsAmended old new) (was : Origins) (P : ℕ) where
  module _ (before : is_touched_by_choice old new was P ≡ false) where
    -- an applicant of the old market with a choice in P is an applicant of the amended one, with the same choices
    stays : (a : ℕ) → a < length old.lists → has_choice_in old (list_of old a) P ≡ true → list_any (is_still old new was a) (range_with_len 0 (length new.lists)) ≡ true
    stays a a_in applies = not-false (list_any (is_still old new was a) (range_with_len 0 (length new.lists))) (elim (cases_Bool (is_changed old new was a)) [
      | inl changed ↦
          let either = or_left (has_choice_in old (list_of old a) P) (list_any (applies_now new was P a) (range_with_len 0 (length new.lists))) applies in
          absurd (true≢false (sym (any_number (λ a. is_changed old new was a && applies_in_either old new was P a) (length old.lists) a a_in (and_from (is_changed old new was a) (applies_in_either old new was P a) changed either)) ∙ before))
      | inr same ↦ same
    ])

    -- no fewer are admitted to choices in P that pass a test
    count_kept : (g h : Entry → Bool) → ((e : Entry) → g e ≡ true → is_choice_in old P e ≡ true) → ((e f : Entry) → e.prog.0 ≡ f.prog.0 → e.score ≡ f.score → g e ≡ h f)
        → (t : Limits) → length (filter (λ choices. passes g (admitted_choice old t choices)) old.lists) ≤ length (filter (λ choices. passes h (admitted_choice new t choices)) new.lists)
    count_kept g h within alike t = covered [] was (λ choices. passes g (admitted_choice old t choices)) (λ choices. passes h (admitted_choice new t choices)) old.lists new.lists (λ a a_in hit.
        let applies : has_choice_in old (list_of old a) P ≡ true = elim (cases_Bool (has_choice_in old (list_of old a) P)) [
          | inl some ↦ some
          | inr never ↦ absurd (true≢false (sym hit ∙ none_passes g (is_choice_in old P) (is_eligible old t) within (list_of old a) never))
        ] in
        any_more (is_still old new was a) (λ b. passes h (admitted_choice new t (list_of new b)) && is_origin (was b) a) (range_with_len 0 (length new.lists)) (λ b still.
        let parts = and_parts (is_origin (was b) a) (are_same_choices (list_of old a) (list_of new b)) still in
        and_from (passes h (admitted_choice new t (list_of new b))) (is_origin (was b) a) (sym (same_admitted old new amended g h alike t (list_of old a) (list_of new b) parts.1) ∙ hit) parts.0) (stays a a_in applies))

    pub demand_kept : (t : Limits) (y : ℕ) → demand old t P y ≤ demand new t P y
    demand_kept t y = count_kept (is_choice_in old P) (is_choice_in new P) (λ e h. h) (λ e f prog score. same_choice_in old new amended P e f prog) (with_limit t P y)

    directly_kept : (t : Limits) (D x : ℕ) → lies_in old D P ≡ true → length (admitted_directly old t D x) ≤ length (admitted_directly new t D x)
    directly_kept t D x within = count_kept (λ e. nat_eq (pool_of old e) D && nat_le x e.score) (λ e. nat_eq (pool_of new e) D && nat_le x e.score)
        (λ e h. subst (λ (C : ℕ). lies_in old C P ≡ true) (sym (eqb-true (pool_of old e) D (and_parts (nat_eq (pool_of old e) D) (nat_le x e.score) h).0)) within)
        (λ e f prog score. ap (λ (C : ℕ). nat_eq C D && nat_le x e.score) (same_pool_of old new amended e f prog) ∙ ap (λ (n : ℕ). nat_eq (pool_of new f) D && nat_le x n) score)
        t

    within_kept : ((C : ℕ) → lies_in old C P ≡ true → quota_of new C ≡ quota_of old C) → (t : Limits) (x n D : ℕ) → lies_in old D P ≡ true → demand_within old t x n D ≤ demand_within new t x n D
    unfolding demand_within
    within_kept quotas t x zero D within = omega arith
    within_kept quotas t x (suc n) D within =
        let inner = sum_by_filter_le (is_child old D) (λ C. min (quota_of old C) (demand_within old t x n C)) (λ C. min (quota_of new C) (demand_within new t x n C)) (range_with_len 0 (length old.pools))
        (λ C e.
        let lies = lies_child old old_ok D C P e within in
        let below = within_kept quotas t x n C lies in
        let quota = quotas C lies in
        omega (arith, below, quota)) in
        let moved = ap (sum_by (λ C. min (quota_of new C) (demand_within new t x n C))) (same_children old new amended D) in
        let direct = directly_kept t D x within in
        omega (arith, inner, moved, direct)

    pub capped_kept : ((C : ℕ) → lies_in old C P ≡ true → quota_of new C ≡ quota_of old C) → (t : Limits) (x : ℕ) → capped_demand old t P x ≤ capped_demand new t P x
    unfolding capped_demand
    capped_kept quotas t x = within_kept quotas t x MAX_DEPTH P (lies_own old P)

  -- the quotas inside an untouched merit pool
  same_quotas : is_touched_by_quota Merit old new P ≡ false → (C : ℕ) → lies_in old C P ≡ true → quota_of new C ≡ quota_of old C
  same_quotas untouched C within = elim (cases_lt C (length old.pools)) [
    | inr past ↦ ap (λ (p : Pool). p.quota) (get_or_past new.pools C no_pool (let each = amended.each in omega (arith, past, each)) ∙ sym (get_or_past old.pools C no_pool past))
    | inl C_in ↦ eqb-true (quota_of new C) (quota_of old C) (not-false' (elim (cases_Bool (has_other_quota old new C)) [
      | inl other ↦ absurd (true≢false (sym (any_number (λ Q. are_in_one_tree old P Q && has_other_quota old new Q) (length old.pools) C C_in
          (and_from (are_in_one_tree old P C) (has_other_quota old new C) (any_at (λ R. lies_in old C R) P (chain_of old P) (lies_own old P) within) other)) ∙ untouched))
      | inr same ↦ same
    ]))
  ] where
    not-false' : not (nat_eq (quota_of new C) (quota_of old C)) ≡ false → nat_eq (quota_of new C) (quota_of old C) ≡ true
    not-false' h = not-false (nat_eq (quota_of new C) (quota_of old C)) h

  by_rule : is_touched_by_choice old new was P ≡ false → (rule : Rule) → is_touched_by_quota rule old new P ≡ false → (t : Limits) (x : ℕ) → IsJustifiedBy rule old t P x → IsJustifiedBy rule new t P x
  by_rule before H quota t x j =
      let low = ltb-false (quota_of old P) (quota_of new P) quota in
      let more = demand_kept before t (x - 1) in
      omega (arith, low, more, j)
  by_rule before L quota t x j =
      let low = ltb-false (quota_of old P) (quota_of new P) quota in
      let more = demand_kept before t (x - 1) in
      let enough = demand_kept before t x in
      (omega (arith, low, more, j.0), omega (arith, low, enough, j.1))
  by_rule before Merit quota t x j =
      let same = same_quotas quota P (lies_own old P) in
      let more = capped_kept before (same_quotas quota) (with_limit t P 0) x in
      omega (arith, same, more, j)

  -- a justified raise of an untouched pool is justified still, at limits that are the same for the pools that fed it
  pub justified_kept : is_touched old new was P ≡ false → (t u : Limits) (x : ℕ) → ((Q : ℕ) → Feeds old Q P → t Q ≡ u Q) → IsJustified old t P x → IsJustified new u P x
  justified_kept untouched t u x fed j =
      let parts = or_parts (is_touched_by_choice old new was P) (is_touched_by_quota (rule_of old P) old new P) untouched in
      let here = is_local old old_ok t u P x fed j in
      subst (λ (rule : Rule). IsJustifiedBy rule new u P x) (sym (same_rule old new amended P)) (by_rule parts.0 (rule_of old P) parts.1 u x here)
