-- Justified raises of merit pools stay justified.
use Rattle.std.proofs.Common.{◌≡◌, ◌≢◌, ℕ, ◌+◌, ◌<◌, ◌≤◌, ◌⊎◌, zero, suc, max, true, sym, ap, ⊎_elim, inl, inr, arith}
use Rattle.std.proofs.lemmas.Bool.{cases_lt, cases_eq}
use Rattle.sl_types.specs.declared.kinds.Rule.TheVariants.{Merit}
use Rattle.sl_types.specs.declared.kinds.TheConstants.{MAX_DEPTH}
use Rattle.sl_types.specs.Market.{Market, quota_of, rule_of, lies_in}
use Rattle.sl_types.specs.WellFormed.{IsWellFormed}
use Rattle.sl_laws.specs.Limits.{Limits, with_limit, effective_limit, capped_demand}
use Rattle.sl_laws.specs.Laws.{AtMost}
use Rattle.sl_laws.proofs.Nest.{depth, limit_le, le_limit, without_le, le_without, lies_own, shallow, depth_child, limit_child, lies_cases, lies_child, merit_child, takes}
use Rattle.sl_laws.proofs.Cover.{cover}
use Rattle.sl_laws.proofs.Direct.{Reaches, directly_le}

-- P's own number decides its effective limit
abbrev pub IsPeak : Market → Limits → ℕ → Type 0
IsPeak market t P = (1 ≤ t P) × ((Q : ℕ) → lies_in market P Q ≡ true → Q ≢ P → t Q < t P)

-- a raise of a merit pool is justified
abbrev pub IsAsked : Market → Limits → ℕ → ℕ → Type 0
IsAsked market t P x = quota_of market P ≤ capped_demand market (with_limit t P 0) P x

module _ (market : Market) (ok : IsWellFormed market) where
  -- Capped demand is covered: P's own number of t, and each number of t inside P that decides a limit, is asked for
  module _ (r t : Limits) (most : AtMost market r t) (P : ℕ) (merit : rule_of market P ≡ Merit)
      (own : (D : ℕ) → rule_of market D ≡ Merit → depth market P < depth market D → IsPeak market t D → IsAsked market t D (t D))
      (x : ℕ) (above : effective_limit market t P ≤ x) where
    abbrev u : Limits
    u = with_limit t P 0

    abbrev v : Limits
    v = with_limit r P 0

    own_low : t P ≤ x
    own_low = let a = le_limit market t P P (lies_own market P) in omega (arith, a, above)

    reach : Reaches market P x v u
    reach Q z Q_in h up =
        let a = without_le market r P Q in let b = most Q Q_in in let c = le_without market t P Q z h (λ l. let k = up l in omega (arith, own_low, k)) in omega (arith, a, b, c)

    abbrev Low : ℕ → Type 0
    Low C = (lies_in market C P ≡ true) × (depth market P ≤ depth market C) × (effective_limit market t C ≤ x)

    module _ (D : ℕ) (peak : IsPeak market t D) (high : x < t D) (inside : lies_in market D P ≡ true) (asked : IsAsked market t D (t D)) where
      reach_peak : Reaches market P (t D) (with_limit t D 0) u
      reach_peak Q z Q_in h up =
          let a = without_le market t D Q in let c = le_without market t P Q z h (λ l. let k = up l in omega (arith, own_low, k, high)) in omega (arith, a, c)

      -- what fills D at its own number fills it at x
      full : quota_of market D ≤ capped_demand market u D x
      full = let k = cover market (with_limit t D 0) (t D) (λ E. capped_demand market u E x) (λ E. lies_in market E P ≡ true)
          (λ E l. let a = takes market ok u E x in
          let b = directly_le market ok P merit (t D) (with_limit t D 0) u reach_peak x E (omega (arith, high)) l
          (let c = without_le market t P E in let d = le_without market t D E (max (t D) (effective_limit market (with_limit t D 0) E)) (omega arith) (λ m. omega arith) in omega (arith, c, d)) in
          omega (arith, a, b))
          (λ E F l e. inl (lies_child market ok E F P e l)) D inside in omega (arith, k, asked)

    -- the capped demand at r is no more than at t
    pub capped_covered : capped_demand market v P x ≤ capped_demand market u P x
    capped_covered = cover market v x (λ C. capped_demand market u C x) Low
        (λ C low. let a = takes market ok u C x in
        let b = directly_le market ok P merit x v u reach x C (omega arith) low.0 (let c = without_le market t P C in let d = low.2 in omega (arith, c, d)) in omega (arith, a, b))
        (λ C D low e. let lies = lies_child market ok C D P e low.0 in let deeper = depth_child market ok C D e in let d = low.1 in let f = low.2 in
        ⊎_elim (λ high. let peak : IsPeak market t D = (omega (arith, high), λ Q l ne. ⊎_elim (λ same. absurd (ne (sym same))) (λ m. let g = le_limit market t C Q m in omega (arith, g, f, high)) (lies_cases market ok C D Q e l)) in
        inr (full D peak high lies (own D (merit_child market ok C D e) (omega (arith, deeper, d)) peak)))
        (λ low'. inl (lies, omega (arith, deeper, d), let g = limit_child market ok t C D e in omega (arith, g, f, low'))) (cases_lt x (t D)))
        P (lies_own market P, omega arith, above)

  -- each number of t that decides a limit was asked for at some limits of at most t
  abbrev pub IsBacked : Limits → Type 0
  IsBacked t = (P : ℕ) → rule_of market P ≡ Merit → IsPeak market t P → (r : Limits) × AtMost market r t × IsAsked market r P (t P)

  peak_limit : (t : Limits) (P : ℕ) → IsPeak market t P → effective_limit market t P ≤ t P
  peak_limit t P peak = limit_le market t P (t P) (λ Q l. ⊎_elim (λ e. let a : t Q ≡ t P = ap t e in omega (arith, a)) (λ ne. let a = peak.1 Q l ne in omega (arith, a)) (cases_eq Q P))

  own_from : (t : Limits) → IsBacked t → (n P : ℕ) → rule_of market P ≡ Merit → (MAX_DEPTH + 1) ≤ n + depth market P → IsPeak market t P → IsAsked market t P (t P)
  own_from t backed zero P merit deep peak = let a = shallow market ok P in absurd (omega (arith, a, deep))
  own_from t backed (suc n) P merit deep peak = let b = backed P merit peak in
      let k = capped_covered b.0 t b.1 P merit (λ D m deeper pk. own_from t backed n D m (omega (arith, deep, deeper)) pk) (t P) (peak_limit t P peak) in
      let c = b.2 in omega (arith, k, c)

  -- the number that decides a pool's limit is itself justified
  pub own_justified : (t : Limits) → IsBacked t → (P : ℕ) → rule_of market P ≡ Merit → IsPeak market t P → IsAsked market t P (t P)
  own_justified t backed P merit peak = own_from t backed (MAX_DEPTH + 1) P merit (omega arith) peak

  -- a justified raise stays justified until it is overtaken
  pub stays_asked : (r t : Limits) → IsBacked t → AtMost market r t → (P x : ℕ) → rule_of market P ≡ Merit → IsAsked market r P x → (x ≤ effective_limit market t P) ⊎ IsAsked market t P x
  stays_asked r t backed most P x merit asked = ⊎_elim
      (λ above. let k = capped_covered r t most P merit (λ D m deeper pk. own_justified t backed D m pk) x (omega (arith, above)) in inr (omega (arith, k, asked)))
      (λ low. inl low) (cases_lt (effective_limit market t P) x)
