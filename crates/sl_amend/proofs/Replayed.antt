-- The kept raises replay on the amended market.
use Rattle.std.proofs.Common.{◌≡◌, ℕ, ◌<◌, ◌≤◌, Bool, true, false, cond, List, [], ◌∷◌, length, max, nat_eq, refl, sym, ap, ◌∙◌, inl, inr, arith, true≢false, eqb-true}
use Rattle.std.proofs.lemmas.Bool.{cases_Bool, cond-true, cond-false, ne_eqb}
use Rattle.sl_types.specs.declared.kinds.Raise.{Raise}
use Rattle.sl_types.specs.Market.{Market, chain_of}
use Rattle.sl_types.specs.WellFormed.{IsWellFormed}
use Rattle.sl_laws.specs.Limits.{Limits, effective_limit}
use Rattle.sl_laws.specs.Stable.{IsJustified}
use Rattle.sl_laws.specs.Raises.{EachRaise, zeros, after_raise, after_raises}
use Rattle.sl_laws.proofs.Effective.{greatest_more, with_limit_else}
use Rattle.sl_laws.proofs.Least.{raised_up}
use Rattle.sl_amend.specs.Amended.{Origins, IsAmended}
use Rattle.sl_amend.specs.Cone.{is_in_cone, kept_raises}
use Rattle.sl_amend.specs.Laws.{KeptReplays, KeptReaches, IsSublist}
use Rattle.sl_amend.proofs.Same.{same_effective}
use Rattle.sl_amend.proofs.Covered.{justified_kept}
use Rattle.sl_amend.proofs.Least.{outside_untouched, outside_fed}

-- a raise counts where it stands
abbrev Counts : Market → Limits → Raise → Type 0
Counts market t r = (effective_limit market t r.pool.0 < r.limit) × IsJustified market t r.pool.0 r.limit

module _ (old new : Market) (was : Origins) where
  abbrev in_cone : ℕ → Bool
  in_cone = is_in_cone old new was

  -- a raise of a pool in the cone changes no number outside
  raised_inside : (t : Limits) (r : Raise) → in_cone r.pool.0 ≡ true → (Q : ℕ) → in_cone Q ≡ false → after_raise t r Q ≡ t Q
  raised_inside t r inside Q out = elim (cases_Bool (nat_eq Q r.pool.0)) [
    | inl same ↦ absurd (true≢false (sym inside ∙ ap in_cone (sym (eqb-true Q r.pool.0 same)) ∙ out))
    | inr other ↦ with_limit_else t r.pool.0 (max (t r.pool.0) r.limit) Q other
  ]

  -- the same raise of numbers that agree
  raised_same : (t u : Limits) (r : Raise) (Q : ℕ) → t r.pool.0 ≡ u r.pool.0 → t Q ≡ u Q → after_raise t r Q ≡ after_raise u r Q
  raised_same t u r Q own same = elim (cases_Bool (nat_eq Q r.pool.0)) [
    | inl here ↦ rw here (ap (λ (n : ℕ). max n r.limit) own)
    | inr other ↦ rw other same
  ]

  raised_below : (t u : Limits) (r : Raise) → ((Q : ℕ) → u Q ≤ t Q) → (Q : ℕ) → after_raise u r Q ≤ after_raise t r Q
  raised_below t u r low Q = elim (cases_Bool (nat_eq Q r.pool.0)) [
    | inl here ↦ let own = low r.pool.0 in rw here (omega (arith, own))
    | inr other ↦ rw other (low Q)
  ]

  abbrev outside : Limits → Limits
  outside t P = cond (in_cone P) 0 (t P)

  outside_in : (t : Limits) (P : ℕ) → in_cone P ≡ true → outside t P ≡ 0
  outside_in t P inside = cond-true (in_cone P) 0 (t P) inside

  outside_out : (t : Limits) (P : ℕ) → in_cone P ≡ false → outside t P ≡ t P
  outside_out t P out = cond-false (in_cone P) 0 (t P) out

  drop_one : (t u : Limits) (r : Raise) → in_cone r.pool.0 ≡ true → ((P : ℕ) → u P ≡ outside t P) → (Q : ℕ) → u Q ≡ outside (after_raise t r) Q
  drop_one t u r inside same Q = elim (cases_Bool (in_cone Q)) [
    | inl hit ↦ same Q ∙ outside_in t Q hit ∙ sym (outside_in (after_raise t r) Q hit)
    | inr miss ↦ same Q ∙ outside_out t Q miss ∙ sym (raised_inside t r inside Q miss) ∙ sym (outside_out (after_raise t r) Q miss)
  ]

  keep_one : (t u : Limits) (r : Raise) → in_cone r.pool.0 ≡ false → ((P : ℕ) → u P ≡ outside t P) → (Q : ℕ) → after_raise u r Q ≡ outside (after_raise t r) Q
  keep_one t u r out same Q = elim (cases_Bool (in_cone Q)) [
    | inl hit ↦
        let other : nat_eq Q r.pool.0 ≡ false = ne_eqb Q r.pool.0 (λ is. true≢false (sym hit ∙ ap in_cone is ∙ out)) in
        with_limit_else u r.pool.0 (max (u r.pool.0) r.limit) Q other ∙ same Q ∙ outside_in t Q hit ∙ sym (outside_in (after_raise t r) Q hit)
    | inr miss ↦
        raised_same u t r Q (same r.pool.0 ∙ outside_out t r.pool.0 out) (same Q ∙ outside_out t Q miss) ∙ sym (outside_out (after_raise t r) Q miss)
  ]

  -- the kept raises reach the list's limits outside the cone, and 0 in it
  reached_from : (c : List Raise) (t u : Limits) → ((P : ℕ) → u P ≡ outside t P) → (P : ℕ) → after_raises u (kept_raises old new was c) P ≡ outside (after_raises t c) P
  reached_from [] t u same P = same P
  reached_from (r ∷ c) t u same P = elim (cases_Bool (in_cone r.pool.0)) [
    | inl inside ↦ rw inside (reached_from c (after_raise t r) u (drop_one t u r inside same) P)
    | inr out ↦ rw out (reached_from c (after_raise t r) (after_raise u r) (keep_one t u r out same) P)
  ]

  none_raised : (P : ℕ) → zeros P ≡ outside zeros P
  none_raised P = elim (cases_Bool (in_cone P)) [
    | inl hit ↦ sym (outside_in zeros P hit)
    | inr miss ↦ sym (outside_out zeros P miss)
  ]

  sublist : (c : List Raise) → IsSublist (kept_raises old new was c) c
  sublist [] = refl
  sublist (r ∷ c) = elim (cases_Bool (in_cone r.pool.0)) [
    | inl inside ↦ rw inside (inl (sublist c))
    | inr out ↦ rw out (inr (kept_raises old new was c, refl, sublist c))
  ]

  module _ (old_ok : IsWellFormed old) (new_ok : IsWellFormed new) (amended : IsAmended old new) where
    -- the limits so far agree outside the cone, and those of the kept raises are nowhere greater
    replays_from : (c : List Raise) (t u : Limits) → ((Q : ℕ) → in_cone Q ≡ false → t Q ≡ u Q) → ((Q : ℕ) → u Q ≤ t Q)
        → EachRaise old (Counts old) t c → EachRaise new (Counts new) u (kept_raises old new was c)
    replays_from [] t u agree low each = tt
    replays_from (r ∷ c) t u agree low each = elim (cases_Bool (in_cone r.pool.0)) [
      | inl inside ↦ rw inside (replays_from c (after_raise t r) u
          (λ Q out. raised_inside t r inside Q out ∙ agree Q out)
          (λ Q. let below = low Q in let up = raised_up t r Q in omega (arith, below, up)) each.2)
      | inr out ↦
          let P : ℕ = r.pool.0 in
          let P_in : P < length new.pools = (let h = each.0 in let same = amended.each in omega (arith, h, same)) in
          let above : effective_limit new u P < r.limit =
          (let same = same_effective old new amended u P in let below = greatest_more u t (chain_of old P) (λ Q up. low Q) in let was_above = each.1.0 in omega (arith, same, below, was_above)) in
          let just : IsJustified new u P r.limit = justified_kept old new old_ok amended was P (outside_untouched old new old_ok new_ok amended was P out) t u r.limit
          (λ Q feed. agree Q (outside_fed old new old_ok new_ok amended was Q P out feed)) each.1.1 in
          rw out (
            P_in,
            (above, just),
            replays_from c (after_raise t r) (after_raise u r)
                (λ Q out_Q. raised_same t u r Q (agree P out) (agree Q out_Q))
                (raised_below t u r low) each.2,
          )
    ]

-- what replays on the old market replays on the amended one without the raises of pools in the cone
pub kept_replays : (old new : Market) → IsWellFormed old → IsWellFormed new → KeptReplays old new
kept_replays old new old_ok new_ok amended was c each = replays_from old new was old_ok new_ok amended c zeros zeros (λ Q out. refl) (λ Q. omega arith) each

-- the kept raises are a sublist, and reach the list's limits outside the cone
pub kept_reaches : (old new : Market) → KeptReaches old new
kept_reaches old new was c = record {
  sublist = sublist old new was c;
  outside = reached_from old new was c zeros zeros (none_raised old new was);
}
