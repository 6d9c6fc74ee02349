-- Who is admitted in a score pool as its own number changes.
use Rattle.std.proofs.Common.{◌≡◌, ◌≢◌, ℕ, Bool, true, false, ◌||◌, List, ◌∷◌, refl, ap, ◌∙◌, inl, inr, nat_le}
use Rattle.std.proofs.lemmas.Bool.{cases_Bool}
use Rattle.sl_types.specs.declared.kinds.Entry.{Entry}
use Rattle.sl_types.specs.Market.{Market, pool_of, lies_in}
use Rattle.sl_types.specs.WellFormed.{IsWellFormed}
use Rattle.sl_laws.specs.Laws.{IsScorePool}
use Rattle.sl_laws.specs.Limits.{Limits, with_limit, effective_limit, is_eligible, is_admitted_in}
use Rattle.sl_laws.proofs.Effective.{with_limit_here, effective_outside, effective_alone, inside_alone}
use Rattle.sl_laws.proofs.Nest.{lies_own}

-- whether an applicant of these choices is admitted in P with its number y
abbrev pub stays_in : Market → Limits → ℕ → ℕ → List Entry → Bool
stays_in market t P y es = is_admitted_in market (with_limit t P y) P es

module _ (market : Market) (ok : IsWellFormed market) (t : Limits) (P : ℕ) (score : IsScorePool market P) where
  -- a choice in P admits where its score is at least y
  pub here_first : (y : ℕ) (e : Entry) (es : List Entry) → pool_of market e ≡ P → stays_in market t P y (e ∷ es) ≡ (nat_le y e.score || stays_in market t P y es)
  here_first y e es in_P =
      let u = with_limit t P y in
      let limit : effective_limit market u (pool_of market e) ≡ y = ap (effective_limit market u) in_P ∙ (effective_alone market ok P score u ∙ with_limit_here t P y) in
      let able : is_eligible market u e ≡ nat_le y e.score = ap (λ (m : ℕ). nat_le m e.score) limit in
      let inside : lies_in market (pool_of market e) P ≡ true = ap (λ (C : ℕ). lies_in market C P) in_P ∙ lies_own market P in
      elim (cases_Bool (nat_le y e.score)) [
        | inl hit ↦ rw (able ∙ hit, hit) inside
        | inr miss ↦ rw (able ∙ miss, miss) refl
      ]

  elsewhere : (C : ℕ) → C ≢ P → lies_in market C P ≡ false
  elsewhere C other = elim (cases_Bool (lies_in market C P)) [
    | inl inside ↦ absurd (other (inside_alone market ok P score C inside))
    | inr out ↦ out
  ]

  same_elsewhere : (y : ℕ) (e : Entry) → pool_of market e ≢ P → is_eligible market (with_limit t P y) e ≡ is_eligible market t e
  same_elsewhere y e other = ap (λ (m : ℕ). nat_le m e.score) (effective_outside market t P y (pool_of market e) (elsewhere (pool_of market e) other))

  -- an eligible choice elsewhere admits there
  pub elsewhere_first : (y : ℕ) (e : Entry) (es : List Entry) → pool_of market e ≢ P → is_eligible market t e ≡ true → stays_in market t P y (e ∷ es) ≡ false
  elsewhere_first y e es other able = rw (same_elsewhere y e other ∙ able) (elsewhere (pool_of market e) other)

  -- any other choice elsewhere admits nowhere
  pub passed_over : (y : ℕ) (e : Entry) (es : List Entry) → pool_of market e ≢ P → is_eligible market t e ≡ false → stays_in market t P y (e ∷ es) ≡ stays_in market t P y es
  passed_over y e es other never = rw (same_elsewhere y e other ∙ never) refl
