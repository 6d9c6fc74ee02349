-- Whether a pool is settled depends on effective limits alone.
use Rattle.std.proofs.Common.{◌≡◌, ℕ, ◌+◌, ◌<◌, ◌≤◌, max, true, length, refl, sym, arith, inl, subst}
use Rattle.sl_types.specs.declared.kinds.Rule.{Rule}
use Rattle.sl_types.specs.declared.kinds.Rule.TheVariants.{H, L, Merit}
use Rattle.sl_types.specs.Market.{Market, rule_of, lies_in}
use Rattle.sl_types.specs.WellFormed.{IsWellFormed}
use Rattle.sl_laws.specs.Limits.{Limits, with_limit, effective_limit, capped_demand}
use Rattle.sl_laws.specs.Stable.{IsJustified, IsJustifiedBy}
use Rattle.sl_laws.specs.Laws.{AtMost, SettledAlike}
use Rattle.sl_laws.proofs.Nest.{le_limit, without_le, le_without, lies_own, lies_child, merit_child, takes}
use Rattle.sl_laws.proofs.Cover.{cover}
use Rattle.sl_laws.proofs.Direct.{Reaches, directly_le}
use Rattle.sl_laws.proofs.Score.{stays_by}
use Rattle.sl_laws.proofs.AllRules.{merit_in, asked_of, just_of, score_of, h_plain, l_plain}

module _ (market : Market) (ok : IsWellFormed market) (t u : Limits) (same : (Q : ℕ) → Q < length market.pools → effective_limit market t Q ≡ effective_limit market u Q) where
  most : AtMost market t u
  most Q Q_in = let e = same Q Q_in in omega (arith, e)

  -- Above its effective limit, the capped demand for a merit pool doesn't depend on its own number.
  module _ (P : ℕ) (merit : rule_of market P ≡ Merit) (x : ℕ) (above : effective_limit market t P < x) (P_in : P < length market.pools) where
    abbrev v : Limits
    v = with_limit t P 0

    abbrev w : Limits
    w = with_limit u P 0

    own_t : t P < x
    own_t = let a = le_limit market t P P (lies_own market P) in omega (arith, a, above)

    own_u : u P < x
    own_u = let a = le_limit market u P P (lies_own market P) in let e = same P P_in in omega (arith, a, e, above)

    reach : Reaches market P x v w
    reach Q z Q_in h up =
        let a = without_le market t P Q in let e = same Q Q_in in let c = le_without market u P Q z h (λ l. let k = up l in omega (arith, own_u, k)) in omega (arith, a, e, c)

    demand_alike : capped_demand market v P x ≤ capped_demand market w P x
    demand_alike = cover market v x (λ C. capped_demand market w C x) (λ C. (lies_in market C P ≡ true) × (C < length market.pools))
        (λ C low. let a = takes market ok w C x in
        let b = directly_le market ok P merit x v w reach x C (omega arith) low.0
        (let c = without_le market u P C in let e = same C low.1 in let d = le_without market t P C (max x (effective_limit market v C)) (omega arith) (λ l. omega (arith, own_t)) in omega (arith, c, d, e)) in
        omega (arith, a, b))
        (λ C D low e. inl (lies_child market ok C D P e low.0, merit_in market ok D (merit_child market ok C D e)))
        P (lies_own market P, P_in)

  alike_by : (P x : ℕ) → P < length market.pools → effective_limit market t P < x → (rule : Rule) → rule_of market P ≡ rule → IsJustifiedBy rule market t P x → IsJustifiedBy rule market u P x
  alike_by P x P_in above H is j = stays_by market ok t u most P x (score_of market ok P H is (h_plain market ok)) H (h_plain market ok) j
  alike_by P x P_in above L is j = stays_by market ok t u most P x (score_of market ok P L is (l_plain market ok)) L (l_plain market ok) j
  alike_by P x P_in above Merit is j = let a = demand_alike P is x above P_in in omega (arith, a, j)

  -- a raise above the effective limit is justified at all limits with the same effective limits
  pub justified_alike : (P x : ℕ) → P < length market.pools → effective_limit market t P < x → IsJustified market t P x → IsJustified market u P x
  justified_alike P x P_in above j = just_of market ok u P x (rule_of market P) refl (alike_by P x P_in above (rule_of market P) refl (asked_of market ok t P x (rule_of market P) refl j))

-- whether a pool is settled depends on effective limits alone
pub settled_alike : (market : Market) → IsWellFormed market → SettledAlike market
settled_alike market ok t u same P P_in settled j =
    let e = same P P_in in
    settled (subst (λ (y : ℕ). IsJustified market t P (y + 1)) (sym e) (justified_alike market ok u t (λ Q Q_in. sym (same Q Q_in)) P (effective_limit market u P + 1) P_in (omega arith) j))
