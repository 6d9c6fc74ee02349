-- A list that proves limits proves them the least.
use Rattle.std.proofs.Common.{◌≡◌, ◌≢◌, ◌⊎◌, ℕ, ◌+◌, ◌-◌, ◌<◌, ◌≤◌, List, [], ◌∷◌, length, refl, sym, ap, arith, inl, inr, max, nat_eq, subst, eqb-true}
use Rattle.std.proofs.lemmas.Bool.{cases_Bool, cases_lt}
use Rattle.sl_types.specs.declared.kinds.Raise.{Raise}
use Rattle.sl_types.specs.declared.kinds.Rule.{Rule}
use Rattle.sl_types.specs.declared.kinds.Rule.TheVariants.{H, L, Merit}
use Rattle.sl_types.specs.Market.{Market, quota_of, chain_of}
use Rattle.sl_laws.specs.Limits.{Limits, effective_limit, demand}
use Rattle.sl_laws.specs.Stable.{IsStable, Meets, IsJustified, IsJustifiedBy}
use Rattle.sl_laws.specs.Raises.{IsVoid, EachRaise, after_raise, after_raises}
use Rattle.sl_laws.specs.Laws.{AtMost}
use Rattle.sl_laws.proofs.Effective.{greatest_more, with_limit_here, with_limit_else}

-- what holds of t's numbers at P and elsewhere holds of the numbers after a raise of P
pub raised_at : (F : ℕ → ℕ → Type 0) (t : Limits) (r : Raise) → ((Q : ℕ) → F Q (t Q)) → F r.pool.0 (max (t r.pool.0) r.limit) → (Q : ℕ) → F Q (after_raise t r Q)
raised_at F t r old new Q = elim (cases_Bool (nat_eq Q r.pool.0)) [
  | inl same ↦ let is : Q ≡ r.pool.0 = eqb-true Q r.pool.0 same in subst (λ (S : ℕ). F S (after_raise t r S)) (sym is) (subst (F r.pool.0) (sym (with_limit_here t r.pool.0 (max (t r.pool.0) r.limit))) new)
  | inr other ↦ subst (F Q) (sym (with_limit_else t r.pool.0 (max (t r.pool.0) r.limit) Q other)) (old Q)
]

-- limits that are smaller number by number
pub at_most_by : (market : Market) (t u : Limits) → ((Q : ℕ) → t Q ≤ u Q) → AtMost market t u
at_most_by market t u low Q Q_in = greatest_more t u (chain_of market Q) (λ R h. low R)

-- a raise lowers no number
pub raised_up : (t : Limits) (r : Raise) (Q : ℕ) → t Q ≤ after_raise t r Q
raised_up t r Q = raised_at (λ S n. t S ≤ n) t r (λ S. omega arith) (omega arith) Q

-- Stable limits are passed by no sound list, where no justified raise passes them.
module _ (market : Market) (l : Limits) (stable : IsStable market l)
    (low : (t : Limits) → AtMost market t l → (P x : ℕ) → P < length market.pools → IsJustified market t P x → x ≤ l P) where
  one_low : (t : Limits) → ((Q : ℕ) → t Q ≤ l Q) → (r : Raise) → r.pool.0 < length market.pools → IsVoid market t r ⊎ IsJustified market t r.pool.0 r.limit → r.limit ≤ l r.pool.0
  one_low t below r P_in (inl void) = let up = at_most_by market t l below r.pool.0 P_in in let same = (stable r.pool.0 P_in).0 in omega (arith, up, same, void)
  one_low t below r P_in (inr just) = low t (at_most_by market t l below) r.pool.0 r.limit P_in just

  -- a sound list stays at most l
  pub all_low : (t : Limits) (c : List Raise) → ((Q : ℕ) → t Q ≤ l Q) → EachRaise market (λ t r. IsVoid market t r ⊎ IsJustified market t r.pool.0 r.limit) t c → (P : ℕ) → after_raises t c P ≤ l P
  all_low t [] below each P = below P
  all_low t (r ∷ c) below each P =
      let here = one_low t below r each.0 each.1 in
      let was = below r.pool.0 in
      all_low (after_raise t r) c (raised_at (λ S n. n ≤ l S) t r below (omega (arith, here, was))) each.2 P

-- a list that replays is sound
pub sound_by_replay : (market : Market) (t : Limits) (c : List Raise) → EachRaise market (λ t r. (effective_limit market t r.pool.0 < r.limit) × IsJustified market t r.pool.0 r.limit) t c → EachRaise market (λ t r. IsVoid market t r ⊎ IsJustified market t r.pool.0 r.limit) t c
sound_by_replay market t [] each = tt
sound_by_replay market t (r ∷ c) each = (each.0, inr each.1.1, sound_by_replay market (after_raise t r) c each.2)

-- A score pool meets its rule where it is settled, and its limit is 0 or justified.
pub meets_by : (market : Market) (l : Limits) (P : ℕ) (rule : Rule) → rule ≢ Merit → (IsJustifiedBy rule market l P (l P + 1) → ⊥) → (l P ≡ 0) ⊎ IsJustifiedBy rule market l P (l P) → Meets rule market l P
meets_by market l P H plain settled just =
    let same : demand market l P (l P + 1 - 1) ≡ demand market l P (l P) = ap (demand market l P) (omega arith) in (
      elim (cases_lt (quota_of market P) (demand market l P (l P))) [
        | inl over ↦ absurd (settled (omega (arith, same, over)))
        | inr fits ↦ fits
      ],
      just,
    )
meets_by market l P L plain settled just =
    let same : demand market l P (l P + 1 - 1) ≡ demand market l P (l P) = ap (demand market l P) (omega arith) in (
      elim (cases_lt (quota_of market P) (demand market l P (l P))) [
        | inl over ↦ elim (cases_lt (demand market l P (l P + 1)) (quota_of market P)) [
          | inl short ↦ inr short
          | inr enough ↦ absurd (settled (omega (arith, same, over), enough))
        ]
        | inr fits ↦ inl fits
      ],
      just,
    )
meets_by market l P Merit plain settled just = absurd (plain refl)
