-- The greatest justified raise.
use Rattle.std.proofs.Common.{◌≡◌, ◌⊎◌, ◌↔◌, ℕ, zero, suc, ◌+◌, ◌-◌, ◌<◌, ◌≤◌, Bool, true, false, refl, sym, ap, ◌∙◌, arith, inl, inr, leb-true, le-leb, ltb-true, lt-ltb, subst}
use Rattle.std.proofs.lemmas.Bool.{cases_Bool, and_from, and_parts, cases_eq}
use Rattle.sl_types.specs.declared.kinds.Rule.{Rule}
use Rattle.sl_types.specs.declared.kinds.Rule.TheVariants.{H, L, Merit}
use Rattle.sl_types.specs.declared.kinds.TheConstants.{MAX_SCORE}
use Rattle.sl_types.specs.Market.{Market, quota_of, rule_of}
use Rattle.sl_types.specs.WellFormed.{IsWellFormed}
use Rattle.sl_laws.specs.Limits.{Limits, with_limit, demand, capped_demand}
use Rattle.sl_laws.specs.Stable.{IsJustified, IsJustifiedBy}
use Rattle.sl_laws.specs.Best.{is_justified, is_justified_by, last_passing, best_raise}
use Rattle.sl_laws.specs.Laws.{BestDecides}
use Rattle.sl_laws.proofs.Score.{justified_below}
use Rattle.sl_laws.proofs.Top.{justified_has_top}

just_true : (rule : Rule) (market : Market) (t : Limits) (P x : ℕ) → is_justified_by rule market t P x ≡ true → IsJustifiedBy rule market t P x
just_true H market t P x e = ltb-true (quota_of market P) (demand market t P (x - 1)) e
just_true L market t P x e =
    let b = and_parts _ _ e in
    (ltb-true (quota_of market P) (demand market t P (x - 1)) b.0, leb-true (quota_of market P) (demand market t P x) b.1)
just_true Merit market t P x e = leb-true (quota_of market P) (capped_demand market (with_limit t P 0) P x) e

true_just : (rule : Rule) (market : Market) (t : Limits) (P x : ℕ) → IsJustifiedBy rule market t P x → is_justified_by rule market t P x ≡ true
true_just H market t P x j = lt-ltb (quota_of market P) (demand market t P (x - 1)) j
true_just L market t P x j = and_from _ _ (lt-ltb (quota_of market P) (demand market t P (x - 1)) j.0) (le-leb (quota_of market P) (demand market t P x) j.1)
true_just Merit market t P x j = le-leb (quota_of market P) (capped_demand market (with_limit t P 0) P x) j

last_is : (f : ℕ → Bool) (n : ℕ) → (last_passing f n ≡ 0) ⊎ (f (last_passing f n) ≡ true)
last_is f zero = inl refl
last_is f (suc n) = elim (cases_Bool (f (suc n))) [
  | inl hit ↦ inr (rw (hit, hit) refl)
  | inr miss ↦ rw miss (last_is f n)
]

last_high : (f : ℕ → Bool) (n x : ℕ) → x ≤ n → f x ≡ true → x ≤ last_passing f n
last_high f zero x low e = low
last_high f (suc n) x low e = elim (cases_Bool (f (suc n))) [
  | inl hit ↦ rw hit low
  | inr miss ↦ elim (cases_eq x (suc n)) [
    | inl same ↦ let h : f (suc n) ≡ true = ap f (sym same) ∙ e in let k : true ≡ false = sym h ∙ miss in cc
    | inr other ↦ rw miss (last_high f n x (omega (arith, low, other)) e)
  ]
]

best_is : (market : Market) (t : Limits) (P : ℕ) → (best_raise market t P ≡ 0) ⊎ (is_justified market t P (best_raise market t P) ≡ true)
unfolding best_raise
best_is market t P = last_is (is_justified market t P) (MAX_SCORE + 1)

best_high : (market : Market) (t : Limits) (P x : ℕ) → x ≤ (MAX_SCORE + 1) → is_justified market t P x ≡ true → x ≤ best_raise market t P
unfolding best_raise
best_high market t P x low e = last_high (is_justified market t P) (MAX_SCORE + 1) x low e

-- a raise is justified exactly where it is at most the best
pub best_decides : (market : Market) → IsWellFormed market → BestDecides market
best_decides market ok t P x P_in some' = (
  (λ j. best_high market t P x (justified_has_top market ok t P x P_in j) (true_just (rule_of market P) market t P x j)),
  (λ low. elim (best_is market t P) [
    | inl z ↦ absurd (omega (arith, z, low, some'))
    | inr e ↦ justified_below market ok t P (best_raise market t P) x low (just_true (rule_of market P) market t P (best_raise market t P) e)
  ]),
)

justified_at : (rule : Rule) (market : Market) (t : Limits) (P x : ℕ) → rule_of market P ≡ rule → IsJustified market t P x ↔ IsJustifiedBy rule market t P x
justified_at rule market t P x is = (subst (λ (rule : Rule). IsJustifiedBy rule market t P x) is, subst (λ (rule : Rule). IsJustifiedBy rule market t P x) (sym is))

-- when a raise of an H pool is justified
pub justified_h : (market : Market) (t : Limits) (P x : ℕ) → rule_of market P ≡ H → IsJustified market t P x ↔ (quota_of market P < demand market t P (x - 1))
justified_h market t P x is = justified_at H market t P x is

-- of an L pool
pub justified_l : (market : Market) (t : Limits) (P x : ℕ) → rule_of market P ≡ L → IsJustified market t P x ↔ ((quota_of market P < demand market t P (x - 1)) × (quota_of market P ≤ demand market t P x))
justified_l market t P x is = justified_at L market t P x is

-- of a merit pool
pub justified_merit : (market : Market) (t : Limits) (P x : ℕ) → rule_of market P ≡ Merit → IsJustified market t P x ↔ (quota_of market P ≤ capped_demand market (with_limit t P 0) P x)
justified_merit market t P x is = justified_at Merit market t P x is

pub ruleset justified_tests = (justified_h, justified_l, justified_merit)
