-- An applicant's lead in a score pool tells up to which limit they are admitted there, and one of their offers is it.
use Rattle.std.specs.Bool.{⊤}
use Rattle.std.proofs.Common.{◌≡◌, ◌≢◌, ◌⊎◌, ℕ, ◌+◌, ◌<◌, ◌≤◌, Bool, true, false, ◌&&◌, ◌||◌, cond, List, [], ◌∷◌, length, drop, get_or, count_by, nat_eq, nat_le, nat_lt, Option, Some, None, refl, sym, ap, ◌∙◌, subst, arith, inl, inr, ne_eqb, eq-eqb, eqb-true, le-leb, leb-true, ltb-true, ltb-false}
use Rattle.std.proofs.lemmas.Bool.{cases_Bool, cases_eq, eqb-false}
use Rattle.std.proofs.lemmas.List.{drop_more, drop_all}
use Rattle.std.proofs.lemmas.List.Sums.{sum_by-cons}
use Rattle.std.proofs.Math.Bool.{or-false, or_assoc}
use Rattle.sl_types.specs.declared.kinds.Entry.{Entry}
use Rattle.sl_types.specs.Market.{Market, pool_of, lies_in}
use Rattle.sl_types.specs.WellFormed.{IsWellFormed}
use Rattle.sl_laws.specs.Laws.{IsScorePool}
use Rattle.sl_laws.specs.Limits.{Limits, is_eligible}
use Rattle.sl_laws.specs.Stable.{is_choice_in}
use Rattle.sl_laws.proofs.Effective.{inside_alone}
use Rattle.sl_laws.proofs.Nest.{lies_own}
use Rattle.sl_contend.specs.declared.offer.Offer.{Offer}
use Rattle.sl_contend.specs.Offers.{offer_of, offers_from}
use Rattle.sl_flat.specs.declared.leading.Lead.{Lead}
use Rattle.sl_flat.specs.Counting.{better, lead_from, lead_of, is_lead}
use Rattle.sl_contend.proofs.Placed.{no_entry}
use Rattle.sl_flat.proofs.Stands.{stays_in, here_first, elsewhere_first, passed_over}

-- whether there is a lead, and its score is at least y
abbrev pub reaches : ℕ → Option Lead → Bool
reaches y None = false
reaches y (Some lead) = nat_le y lead.score

-- 1 where it does, else 0
abbrev pub reached : ℕ → Option Lead → ℕ
reached y lead = cond (reaches y lead) 1 0

low_or : (y r s : ℕ) → r < s → nat_le y s ≡ (nat_le y r || nat_le y s)
low_or y r s h = elim (cases_Bool (nat_le y r)) [
  | inl hit ↦ let k = leb-true y r hit in rw (hit, le-leb y s (omega (arith, k, h))) refl
  | inr miss ↦ rw miss refl
]

high_or : (y r s : ℕ) → s ≤ r → nat_le y r ≡ (nat_le y r || nat_le y s)
high_or y r s h = elim (cases_Bool (nat_le y s)) [
  | inl hit ↦ let k = leb-true y s hit in rw (hit, le-leb y r (omega (arith, k, h))) refl
  | inr miss ↦ rw miss (sym (or-false (nat_le y r)))
]

-- the better of two reaches what either reaches
better_reaches : (y : ℕ) (best : Option Lead) (i s : ℕ) → reaches y (better best i s) ≡ (reaches y best || nat_le y s)
better_reaches y None i s = refl
better_reaches y (Some lead) i s = elim (cases_Bool (nat_lt lead.score s)) [
  | inl up ↦ rw up (low_or y lead.score s (ltb-true lead.score s up))
  | inr down ↦ rw down (high_or y lead.score s (ltb-false lead.score s down))
]

-- how the lead goes on at one choice
module _ (market : Market) (t : Limits) (P : ℕ) where
  pub lead_here : (best : Option Lead) (i : ℕ) (e : Entry) (es : List Entry) → pool_of market e ≡ P → lead_from market t P best i (e ∷ es) ≡ lead_from market t P (better best i e.score) (i + 1) es
  lead_here best i e es in_P = rw (eq-eqb (pool_of market e) P in_P) refl

  pub lead_stop : (best : Option Lead) (i : ℕ) (e : Entry) (es : List Entry) → pool_of market e ≢ P → is_eligible market t e ≡ true → lead_from market t P best i (e ∷ es) ≡ best
  lead_stop best i e es other able = rw (ne_eqb (pool_of market e) P other, able) refl

  pub lead_over : (best : Option Lead) (i : ℕ) (e : Entry) (es : List Entry) → pool_of market e ≢ P → is_eligible market t e ≡ false → lead_from market t P best i (e ∷ es) ≡ lead_from market t P best (i + 1) es
  lead_over best i e es other never = rw (ne_eqb (pool_of market e) P other, never) refl

  -- one choice more of a list
  module _ (es : List Entry) (i : ℕ) (best : Option Lead) (h : i < length es) where
    abbrev now : Entry
    now = get_or es i no_entry

    at_now : lead_from market t P best i (drop i es) ≡ lead_from market t P best i (now ∷ drop (i + 1) es)
    at_now = ap (lead_from market t P best i) (drop_more es i no_entry h)

    pub more_here : pool_of market now ≡ P → lead_from market t P best i (drop i es) ≡ lead_from market t P (better best i now.score) (i + 1) (drop (i + 1) es)
    more_here in_P = at_now ∙ lead_here best i now (drop (i + 1) es) in_P

    pub more_stop : pool_of market now ≢ P → is_eligible market t now ≡ true → lead_from market t P best i (drop i es) ≡ best
    more_stop other able = at_now ∙ lead_stop best i now (drop (i + 1) es) other able

    pub more_over : pool_of market now ≢ P → is_eligible market t now ≡ false → lead_from market t P best i (drop i es) ≡ lead_from market t P best (i + 1) (drop (i + 1) es)
    more_over other never = at_now ∙ lead_over best i now (drop (i + 1) es) other never

  pub more_none : (es : List Entry) (i : ℕ) (best : Option Lead) → length es ≤ i → lead_from market t P best i (drop i es) ≡ best
  more_none es i best h = ap (lead_from market t P best i) (drop_all i es h)

  -- a lead from i on, or the one so far
  abbrev IsFrom : ℕ → Option Lead → Type 0
  IsFrom i None = ⊥
  IsFrom i (Some lead) = i ≤ lead.index

  from_less : (i j : ℕ) (lead : Option Lead) → j ≤ i → IsFrom i lead → IsFrom j lead
  from_less i j None h f = f
  from_less i j (Some lead) h f = omega (arith, h, f)

  better_from : (best : Option Lead) (i s : ℕ) → (better best i s ≡ best) ⊎ (better best i s ≡ Some (record { index = i; score = s }))
  better_from None i s = inr refl
  better_from (Some lead) i s = elim (cases_Bool (nat_lt lead.score s)) [
    | inl up ↦ rw up (inr refl)
    | inr down ↦ rw down (inl refl)
  ]

  -- the lead is the one so far, or it stands further on
  lead_cases : (best : Option Lead) (i : ℕ) (es : List Entry) → (lead_from market t P best i es ≡ best) ⊎ IsFrom i (lead_from market t P best i es)
  lead_cases best i [] = inl refl
  lead_cases best i (e ∷ es) = elim (cases_Bool (nat_eq (pool_of market e) P)) [
    | inl here ↦ rw here (elim (lead_cases (better best i e.score) (i + 1) es) [
      | inl same ↦ elim (better_from best i e.score) [
        | inl old ↦ inl (same ∙ old)
        | inr new ↦ inr (rw (same ∙ new) (omega arith))
      ]
      | inr later ↦ inr (from_less (i + 1) i (lead_from market t P (better best i e.score) (i + 1) es) (omega arith) later)
    ])
    | inr else ↦ rw else (elim (cases_Bool (is_eligible market t e)) [
      | inl able ↦ rw able (inl refl)
      | inr never ↦ rw never (elim (lead_cases best (i + 1) es) [
        | inl same ↦ inl same
        | inr later ↦ inr (from_less (i + 1) i (lead_from market t P best (i + 1) es) (omega arith) later)
      ])
    ])
  ]

-- a lead that stands before i, if there is one
abbrev IsBefore : ℕ → Option Lead → Type 0
IsBefore i None = ⊤
IsBefore i (Some lead) = lead.index < i

before_more : (i : ℕ) (lead : Option Lead) → IsBefore i lead → IsBefore (i + 1) lead
before_more i None h = tt
before_more i (Some lead) h = omega (arith, h)

better_before : (best : Option Lead) (i s : ℕ) → IsBefore i best → IsBefore (i + 1) (better best i s)
better_before None i s h = omega arith
better_before (Some lead) i s h = elim (cases_Bool (nat_lt lead.score s)) [
  | inl up ↦ rw up (omega arith)
  | inr down ↦ rw down (omega (arith, h))
]

not_before : (market : Market) (t : Limits) (P i : ℕ) (lead : Option Lead) → IsBefore i lead → is_lead i lead ≡ false
not_before market t P i None h = refl
not_before market t P i (Some lead) h = ne_eqb lead.index i (λ e. omega (arith, e, h))

not_after : (market : Market) (t : Limits) (P i : ℕ) (lead : Option Lead) → IsFrom market t P (i + 1) lead → is_lead i lead ≡ false
not_after market t P i None f = absurd f
not_after market t P i (Some lead) f = ne_eqb lead.index i (λ e. omega (arith, e, f))

never_both : (market : Market) (t : Limits) (P i : ℕ) (lead : Option Lead) → IsFrom market t P i lead → IsBefore i lead → ⊥
never_both market t P i None f h = f
never_both market t P i (Some lead) f h = omega (arith, f, h)

module _ (market : Market) (ok : IsWellFormed market) (t : Limits) (P : ℕ) (score : IsScorePool market P) where
  -- a choice is in a score pool where its programme's pool is it
  pub in_pool : (e : Entry) → is_choice_in market P e ≡ nat_eq (pool_of market e) P
  in_pool e = elim (cases_Bool (nat_eq (pool_of market e) P)) [
    | inl same ↦ rw same (ap (λ (C : ℕ). lies_in market C P) (eqb-true (pool_of market e) P same) ∙ lies_own market P)
    | inr other ↦ rw other (elim (cases_Bool (lies_in market (pool_of market e) P)) [
      | inl inside ↦ absurd (eqb-false (pool_of market e) P other (inside_alone market ok P score (pool_of market e) inside))
      | inr out ↦ out
    ])
  ]

  -- the lead reaches y where the one so far does, or the applicant stays in the pool at the limit y
  pub lead_reaches : (y : ℕ) (best : Option Lead) (i : ℕ) (es : List Entry) → reaches y (lead_from market t P best i es) ≡ (reaches y best || stays_in market t P y es)
  lead_reaches y best i [] = sym (or-false (reaches y best))
  lead_reaches y best i (e ∷ es) = elim (cases_eq (pool_of market e) P) [
    | inl here ↦
        ap (reaches y) (lead_here market t P best i e es here)
        ∙ (lead_reaches y (better best i e.score) (i + 1) es
        ∙ (ap (λ (b : Bool). b || stays_in market t P y es) (better_reaches y best i e.score)
        ∙ (or_assoc (reaches y best) (nat_le y e.score) (stays_in market t P y es) ∙ ap (λ (b : Bool). reaches y best || b) (sym (here_first market ok t P score y e es here)))))
    | inr else ↦ elim (cases_Bool (is_eligible market t e)) [
      | inl able ↦
          ap (reaches y) (lead_stop market t P best i e es else able)
          ∙ sym (ap (λ (b : Bool). reaches y best || b) (elsewhere_first market ok t P score y e es else able) ∙ or-false (reaches y best))
      | inr never ↦
          ap (reaches y) (lead_over market t P best i e es else never)
          ∙ (lead_reaches y best (i + 1) es ∙ ap (λ (b : Bool). reaches y best || b) (sym (passed_over market ok t P score y e es else never)))
    ]
  ]

  -- leads of applicants, of which an offer of a score of at least y may be one
  module _ (y a : ℕ) (leads : ℕ → Option Lead) where
    abbrev pub is_hit : Offer → Bool
    is_hit o = is_lead o.index (leads o.app.0) && nat_le y o.score

    abbrev hit : Offer → ℕ
    hit o = cond (is_hit o) 1 0

    hits_in : (i : ℕ) (e : Entry) (es : List Entry) → nat_eq (pool_of market e) P ≡ true → count_by is_hit (offers_from market P a i (e ∷ es)) ≡ hit (offer_of a i e) + count_by is_hit (offers_from market P a (i + 1) es)
    hits_in i e es here = rw (in_pool e ∙ here) (sum_by-cons hit (offer_of a i e) (offers_from market P a (i + 1) es))

    hits_out : (i : ℕ) (e : Entry) (es : List Entry) → nat_eq (pool_of market e) P ≡ false → count_by is_hit (offers_from market P a i (e ∷ es)) ≡ count_by is_hit (offers_from market P a (i + 1) es)
    hits_out i e es else = rw (in_pool e ∙ else) refl

    no_hit : (i : ℕ) (e : Entry) → is_lead i (leads a) ≡ false → hit (offer_of a i e) ≡ 0
    no_hit i e miss = rw miss refl

    -- no choice further on is the lead
    no_hits : (i : ℕ) (es : List Entry) → IsBefore i (leads a) → count_by is_hit (offers_from market P a i es) ≡ 0
    no_hits i [] h = refl
    no_hits i (e ∷ es) h =
        let rest = no_hits (i + 1) es (before_more i (leads a) h) in
        elim (cases_Bool (nat_eq (pool_of market e) P)) [
          | inl here ↦ let s = hits_in i e es here in let z = no_hit i e (not_before market t P i (leads a) h) in omega (arith, s, z, rest)
          | inr else ↦ hits_out i e es else ∙ rest
        ]

    -- one choice is
    one_hit : (best : Option Lead) (i : ℕ) (es : List Entry) → IsBefore i best → leads a ≡ lead_from market t P best i es → IsFrom market t P i (leads a)
        → count_by is_hit (offers_from market P a i es) ≡ reached y (leads a)
    one_hit best i [] b is f = absurd (never_both market t P i best (subst (IsFrom market t P i) is f) b)
    one_hit best i (e ∷ es) b is f = elim (cases_eq (pool_of market e) P) [
      | inl here ↦
          let to = is ∙ lead_here market t P best i e es here in
          let s = hits_in i e es (eq-eqb (pool_of market e) P here) in
          elim (lead_cases market t P (better best i e.score) (i + 1) es) [
            | inl same ↦ elim (better_from market t P best i e.score) [
              | inl old ↦ absurd (never_both market t P i best (subst (IsFrom market t P i) (to ∙ (same ∙ old)) f) b)
              | inr new ↦
                  let own : leads a ≡ Some (record { index = i; score = e.score }) = to ∙ (same ∙ new) in
                  let rest = no_hits (i + 1) es (subst (IsBefore (i + 1)) (sym own) (omega arith)) in
                  let one : hit (offer_of a i e) ≡ reached y (leads a) = rw own (rw (eq-eqb i i refl) refl) in
                  omega (arith, s, rest, one)
            ]
            | inr later ↦
                let after : IsFrom market t P (i + 1) (leads a) = subst (IsFrom market t P (i + 1)) (sym to) later in
                let rest = one_hit (better best i e.score) (i + 1) es (better_before best i e.score b) to after in
                let z = no_hit i e (not_after market t P i (leads a) after) in
                omega (arith, s, rest, z)
          ]
      | inr else ↦
          let s = hits_out i e es (ne_eqb (pool_of market e) P else) in
          elim (cases_Bool (is_eligible market t e)) [
            | inl able ↦ absurd (never_both market t P i best (subst (IsFrom market t P i) (is ∙ lead_stop market t P best i e es else able) f) b)
            | inr never ↦
                let to = is ∙ lead_over market t P best i e es else never in
                elim (lead_cases market t P best (i + 1) es) [
                  | inl same ↦ absurd (never_both market t P i best (subst (IsFrom market t P i) (to ∙ same) f) b)
                  | inr later ↦ s ∙ one_hit best (i + 1) es (before_more i best b) to (subst (IsFrom market t P (i + 1)) (sym to) later)
                ]
          ]
    ]

    -- of an applicant's offers one counts where the lead reaches y, else none
    pub hits_are : (es : List Entry) → leads a ≡ lead_of market t P es → count_by is_hit (offers_from market P a 0 es) ≡ cond (stays_in market t P y es) 1 0
    hits_are es is =
        let reach : reached y (leads a) ≡ cond (stays_in market t P y es) 1 0 = ap (λ (lead : Option Lead). reached y lead) is ∙ ap (λ (b : Bool). cond b 1 0) (lead_reaches y None 0 es) in
        elim (lead_cases market t P None 0 es) [
          | inl same ↦
              let none : leads a ≡ None = is ∙ same in
              let zero : reached y (leads a) ≡ 0 = rw none refl in
              let h : IsBefore 0 (leads a) = subst (IsBefore 0) (sym none) tt in
              no_hits 0 es h ∙ (sym zero ∙ reach)
          | inr later ↦ one_hit None 0 es tt is (subst (IsFrom market t P 0) (sym is) later) ∙ reach
        ]
