-- The offers that count, as the order of the offers tells them.
use Rattle.std.specs.Bool.{⊤}
use Rattle.std.proofs.Common.{◌≡◌, ◌≢◌, ◌⊎◌, ℕ, zero, suc, ◌+◌, ◌<◌, ◌≤◌, Bool, true, false, not, ◌&&◌, List, [], ◌∷◌, length, take, get_or, nat_lt, All, Option, Some, None, Contains, refl, sym, ap, ◌∙◌, subst, arith, inl, inr, ne_eqb, eq-eqb, eqb-true, ltb-true, ltb-false}
use Rattle.std.specs.List.{list_any, flat_map, range_with_len}
use Rattle.std.specs.Ordering.{nat_cmp, ordering_then, is_lt}
use Rattle.std.specs.declared.cmp.Ordering.{Ordering}
use Rattle.std.specs.declared.cmp.Ordering.TheVariants.{Less, Equal}
use Rattle.sl_laws.proofs.Lists.{contains_head, contains_tail}
use Rattle.std.proofs.lemmas.Bool.{cases_Bool, cases_eq, lt-ltb, or_parts, true≢false}
use Rattle.std.proofs.lemmas.Cmp.{tied_itself, nat_cmp_total}
use Rattle.std.proofs.lemmas.List.Elements.{All-nil, All-cons, All-weaker, All-append, All-contains, Contains-append_left, Contains-append_right}
use Rattle.sl_types.specs.declared.kinds.Entry.{Entry}
use Rattle.sl_types.specs.Market.{Market, pool_of, list_of}
use Rattle.sl_types.specs.Valid.{applicant_numbers}
use Rattle.sl_types.specs.WellFormed.{IsWellFormed}
use Rattle.sl_laws.specs.Laws.{IsScorePool}
use Rattle.sl_laws.specs.Limits.{Limits, is_eligible}
use Rattle.sl_laws.specs.Stable.{is_choice_in}
use Rattle.sl_contend.specs.declared.offer.Offer.{Offer}
use Rattle.sl_contend.specs.Offers.{offer_of, offers_from, offers_by, choices_in, comes_before, IsChoice}
use Rattle.sl_contend.proofs.Offered.{choices_are}
use Rattle.sl_flat.specs.declared.leading.Lead.{Lead}
use Rattle.sl_flat.specs.Counting.{better, lead_from, lead_of, is_lead, counts, is_open, NoneBefore, CountsByOrder}
use Rattle.sl_contend.proofs.Placed.{no_entry}
use Rattle.sl_flat.proofs.Leads.{lead_here, lead_stop, lead_over, in_pool}

module _ (market : Market) (ok : IsWellFormed market) (t : Limits) (P : ℕ) (alone : IsScorePool market P) where
  -- an eligible choice elsewhere
  abbrev blocks : Entry → Bool
  blocks e = not (is_choice_in market P e) && is_eligible market t e

  blocks_here : (e : Entry) → pool_of market e ≡ P → blocks e ≡ false
  blocks_here e here = rw (in_pool market ok t P alone e ∙ eq-eqb (pool_of market e) P here) refl

  blocks_else : (e : Entry) → pool_of market e ≢ P → blocks e ≡ is_eligible market t e
  blocks_else e else = rw (in_pool market ok t P alone e ∙ ne_eqb (pool_of market e) P else) refl

  -- a lead that is choice j of the list, of which the first has the index i
  record IsAt (i : ℕ) (es : List Entry) (lead : Lead) : Type 0 where
    pub j : ℕ
    pub within : j < length es
    pub index : lead.index ≡ i + j
    pub score : lead.score ≡ (get_or es j no_entry).score
    pub pool : pool_of market (get_or es j no_entry) ≡ P
    pub free : list_any blocks (take j es) ≡ false

  at_next : (i : ℕ) (e : Entry) (es : List Entry) (lead : Lead) → blocks e ≡ false → IsAt (i + 1) es lead → IsAt i (e ∷ es) lead
  at_next i e es lead never at =
      let k = at.index in
      let w = at.within in
      record {
        j = suc at.j;
        within = omega (arith, w);
        index = omega (arith, k);
        score = at.score;
        pool = at.pool;
        free = rw never at.free;
      }

  better_is : (best : Option Lead) (i s : ℕ) (lead : Lead) → better best i s ≡ Some lead → (best ≡ Some lead) ⊎ ((lead.index ≡ i) × (lead.score ≡ s))
  better_is None i s lead is = let e : record { index = i; score = s } ≡ lead = cc in inr (ap (λ (l : Lead). l.index) (sym e), ap (λ (l : Lead). l.score) (sym e))
  better_is (Some old) i s lead is = elim (cases_Bool (nat_lt old.score s)) [
    | inl up ↦
        let k : Some (record { index = i; score = s }) ≡ Some lead = rw up at is in
        let e : record { index = i; score = s } ≡ lead = cc in
        inr (ap (λ (l : Lead). l.index) (sym e), ap (λ (l : Lead). l.score) (sym e))
    | inr down ↦ let k : Some old ≡ Some lead = rw down at is in inl k
  ]

  -- a lead is the one so far, or a choice of the list before which no choice elsewhere is eligible
  lead_at : (best : Option Lead) (i : ℕ) (es : List Entry) (lead : Lead) → lead_from market t P best i es ≡ Some lead → (best ≡ Some lead) ⊎ IsAt i es lead
  lead_at best i [] lead is = inl is
  lead_at best i (e ∷ es) lead is = elim (cases_eq (pool_of market e) P) [
    | inl here ↦ elim (lead_at (better best i e.score) (i + 1) es lead (sym (lead_here market t P best i e es here) ∙ is)) [
      | inl same ↦ elim (better_is best i e.score lead same) [
        | inl old ↦ inl old
        | inr new ↦ let n = new.0 in inr (record { j = 0; within = omega arith; index = omega (arith, n); score = new.1; pool = here; free = refl })
      ]
      | inr later ↦ inr (at_next i e es lead (blocks_here e here) later)
    ]
    | inr else ↦ elim (cases_Bool (is_eligible market t e)) [
      | inl able ↦ inl (sym (lead_stop market t P best i e es else able) ∙ is)
      | inr never ↦ elim (lead_at best (i + 1) es lead (sym (lead_over market t P best i e es else never) ∙ is)) [
        | inl same ↦ inl same
        | inr later ↦ inr (at_next i e es lead (blocks_else e else ∙ never) later)
      ]
    ]
  ]

  -- a lead no worse than choice k of score s
  abbrev AtLeast : ℕ → ℕ → Option Lead → Type 0
  AtLeast k s None = ⊥
  AtLeast k s (Some lead) = (s < lead.score) ⊎ ((s ≡ lead.score) × (lead.index ≤ k))

  least_better : (k s : ℕ) (best : Option Lead) (i r : ℕ) → AtLeast k s best → AtLeast k s (better best i r)
  least_better k s None i r least = absurd least
  least_better k s (Some lead) i r least = elim (cases_Bool (nat_lt lead.score r)) [
    | inl up ↦ rw up (inl (elim least [
      | inl more ↦ let u = ltb-true lead.score r up in omega (arith, more, u)
      | inr same ↦ let u = ltb-true lead.score r up in let e = same.0 in omega (arith, e, u)
    ]))
    | inr down ↦ rw down least
  ]

  least_kept : (k s : ℕ) (best : Option Lead) (i : ℕ) (es : List Entry) → AtLeast k s best → AtLeast k s (lead_from market t P best i es)
  least_kept k s best i [] least = least
  least_kept k s best i (e ∷ es) least = elim (cases_eq (pool_of market e) P) [
    | inl here ↦ rw (lead_here market t P best i e es here) (least_kept k s (better best i e.score) (i + 1) es (least_better k s best i e.score least))
    | inr else ↦ elim (cases_Bool (is_eligible market t e)) [
      | inl able ↦ rw (lead_stop market t P best i e es else able) least
      | inr never ↦ rw (lead_over market t P best i e es else never) (least_kept k s best (i + 1) es least)
    ]
  ]

  -- a lead so far that stands before i
  abbrev Early : ℕ → Option Lead → Type 0
  Early i None = ⊤
  Early i (Some lead) = lead.index < i

  early_more : (i : ℕ) (best : Option Lead) → Early i best → Early (i + 1) best
  early_more i None h = tt
  early_more i (Some lead) h = omega (arith, h)

  early_better : (best : Option Lead) (i s : ℕ) → Early i best → Early (i + 1) (better best i s)
  early_better None i s h = omega arith
  early_better (Some lead) i s h = elim (cases_Bool (nat_lt lead.score s)) [
    | inl up ↦ rw up (omega arith)
    | inr down ↦ rw down (omega (arith, h))
  ]

  least_here : (best : Option Lead) (i s : ℕ) → Early i best → AtLeast i s (better best i s)
  least_here None i s h = inr (refl, omega arith)
  least_here (Some lead) i s h = elim (cases_Bool (nat_lt lead.score s)) [
    | inl up ↦ rw up (inr (refl, omega arith))
    | inr down ↦ rw down (elim (cases_eq s lead.score) [
      | inl same ↦ inr (same, omega (arith, h))
      | inr other ↦ let d = ltb-false lead.score s down in inl (omega (arith, d, other))
    ])
  ]

  -- the lead is no worse than any choice of the pool before which no choice elsewhere is eligible
  lead_least : (best : Option Lead) (i : ℕ) (es : List Entry) (j : ℕ) → Early i best → j < length es → pool_of market (get_or es j no_entry) ≡ P → list_any blocks (take j es) ≡ false
      → AtLeast (i + j) (get_or es j no_entry).score (lead_from market t P best i es)
  lead_least best i [] j early j_in pool free = absurd (omega (arith, j_in))
  lead_least best i (e ∷ es) zero early j_in pool free =
      let z : i + 0 ≡ i = omega arith in
      rw (z, lead_here market t P best i e es pool) (least_kept i e.score (better best i e.score) (i + 1) es (least_here best i e.score early))
  lead_least best i (e ∷ es) (suc j) early j_in pool free =
      let parts = or_parts (blocks e) (list_any blocks (take j es)) free in
      let z : i + suc j ≡ i + 1 + j = omega arith in
      elim (cases_eq (pool_of market e) P) [
        | inl here ↦ rw (z, lead_here market t P best i e es here) (lead_least (better best i e.score) (i + 1) es j (early_better best i e.score early) (omega (arith, j_in)) pool parts.1)
        | inr else ↦ rw (z, lead_over market t P best i e es else (sym (blocks_else e else) ∙ parts.0)) (lead_least best (i + 1) es j (early_more i best early) (omega (arith, j_in)) pool parts.1)
      ]

  -- an offer that is choice j of an applicant's list, of which the first has the index i
  record IsIn (a i : ℕ) (es : List Entry) (o : Offer) : Type 0 where
    pub j : ℕ
    pub app : o.app.0 ≡ a
    pub within : j < length es
    pub index : o.index ≡ i + j
    pub score : o.score ≡ (get_or es j no_entry).score
    pub pool : pool_of market (get_or es j no_entry) ≡ P

  in_next : (a i : ℕ) (e : Entry) (es : List Entry) (o : Offer) → IsIn a (i + 1) es o → IsIn a i (e ∷ es) o
  in_next a i e es o it = let k = it.index in let w = it.within in record { j = suc it.j; app = it.app; within = omega (arith, w); index = omega (arith, k); score = it.score; pool = it.pool }

  from_in : (a i : ℕ) (es : List Entry) → All (IsIn a i es) (offers_from market P a i es)
  from_in a i [] = All-nil (IsIn a i [])
  from_in a i (e ∷ es) =
      let rest = All-weaker (IsIn a (i + 1) es) (IsIn a i (e ∷ es)) (in_next a i e es) (offers_from market P a (i + 1) es) (from_in a (i + 1) es) in
      elim (cases_Bool (is_choice_in market P e)) [
        | inl hit ↦
            let here = eqb-true (pool_of market e) P (sym (in_pool market ok t P alone e) ∙ hit) in
            rw hit (All-cons (IsIn a i (e ∷ es)) (offer_of a i e) (offers_from market P a (i + 1) es) (record { j = 0; app = refl; within = omega arith; index = omega arith; score = refl; pool = here }) rest)
        | inr miss ↦ rw miss rest
      ]

  to_in : (a i : ℕ) (es : List Entry) (j : ℕ) → j < length es → pool_of market (get_or es j no_entry) ≡ P → Contains (offers_from market P a i es) (offer_of a (i + j) (get_or es j no_entry))
  to_in a i [] j h pool = absurd (omega (arith, h))
  to_in a i (e ∷ es) zero h pool =
      let hit : is_choice_in market P e ≡ true = in_pool market ok t P alone e ∙ eq-eqb (pool_of market e) P pool in
      let z : i + 0 ≡ i = omega arith in
      rw (hit, z) (contains_head (offer_of a i e) (offer_of a i e) (offers_from market P a (i + 1) es) refl)
  to_in a i (e ∷ es) (suc j) h pool =
      let z : i + suc j ≡ i + 1 + j = omega arith in
      let rest = to_in a (i + 1) es j (omega (arith, h)) pool in
      elim (cases_Bool (is_choice_in market P e)) [
        | inl hit ↦ rw (hit, z) (contains_tail (offer_of a i e) (offer_of a (i + 1 + j) (get_or es j no_entry)) (offers_from market P a (i + 1) es) rest)
        | inr miss ↦ rw (miss, z) rest
      ]

  all_in : (ns : List ℕ) → All (λ o. IsIn o.app.0 0 (list_of market o.app.0) o) (flat_map (offers_by market P) ns)
  all_in [] = All-nil (λ o. IsIn o.app.0 0 (list_of market o.app.0) o)
  all_in (a ∷ ns) = All-append (λ o. IsIn o.app.0 0 (list_of market o.app.0) o) (offers_by market P a) (flat_map (offers_by market P) ns)
      (All-weaker (IsIn a 0 (list_of market a)) (λ o. IsIn o.app.0 0 (list_of market o.app.0) o) (λ o it. subst (λ (b : ℕ). IsIn b 0 (list_of market b) o) (sym it.app) it) (offers_by market P a) (from_in a 0 (list_of market a)))
      (all_in ns)

  flat_in : (f : ℕ → List Offer) (k m a : ℕ) (x : Offer) → k ≤ a → a < k + m → Contains (f a) x → Contains (flat_map f (range_with_len k m)) x
  flat_in f k zero a x low high c = absurd (omega (arith, low, high))
  flat_in f k (suc m) a x low high c = elim (cases_eq a k) [
    | inl same ↦ Contains-append_left (f k) (flat_map f (range_with_len (k + 1) m)) x (subst (λ (b : ℕ). Contains (f b) x) same c)
    | inr other ↦ Contains-append_right (f k) (flat_map f (range_with_len (k + 1) m)) x (flat_in f (k + 1) m a x (omega (arith, low, other)) (omega (arith, high)) c)
  ]

  -- an offer with a greater score, or the same and an earlier choice of its applicant, comes first
  first_of : (x o : Offer) → x.app.0 ≡ o.app.0 → (o.score < x.score) ⊎ ((o.score ≡ x.score) × (x.index < o.index)) → comes_before x o ≡ true
  first_of x o same (inl more) = rw (lt-ltb o.score x.score more) refl
  first_of x o same (inr tied) =
      let s : nat_cmp o.score x.score ≡ Equal = ap (nat_cmp o.score) (sym tied.0) ∙ tied_itself nat_cmp_total o.score in
      let a : nat_cmp x.app.0 o.app.0 ≡ Equal = ap (nat_cmp x.app.0) (sym same) ∙ tied_itself nat_cmp_total x.app.0 in
      let i : nat_cmp x.index o.index ≡ Less = rw (lt-ltb x.index o.index tied.1) refl in
      ap is_lt (ap (λ (r : Ordering). ordering_then r (ordering_then (nat_cmp x.app.0 o.app.0) (nat_cmp x.index o.index))) s ∙ (ap (λ (r : Ordering). ordering_then r (nat_cmp x.index o.index)) a ∙ i))

  -- and not one with the same score and index
  never_first : (x o : Offer) → x.app.0 ≡ o.app.0 → x.score ≡ o.score → x.index ≡ o.index → comes_before x o ≡ true → ⊥
  never_first x o app score' index first =
      let s : nat_cmp o.score x.score ≡ Equal = ap (nat_cmp o.score) score' ∙ tied_itself nat_cmp_total o.score in
      let a : nat_cmp x.app.0 o.app.0 ≡ Equal = ap (nat_cmp x.app.0) (sym app) ∙ tied_itself nat_cmp_total x.app.0 in
      let i : nat_cmp x.index o.index ≡ Equal = ap (nat_cmp x.index) (sym index) ∙ tied_itself nat_cmp_total x.index in
      let tie : comes_before x o ≡ false = ap is_lt (ap (λ (r : Ordering). ordering_then r (ordering_then (nat_cmp x.app.0 o.app.0) (nat_cmp x.index o.index))) s ∙ (ap (λ (r : Ordering). ordering_then r (nat_cmp x.index o.index)) a ∙ i)) in
      true≢false (sym first ∙ tie)

  lead_is : (i : ℕ) (lead : Option Lead) → is_lead i lead ≡ true → (l : Lead) × (lead ≡ Some l) × (l.index ≡ i)
  lead_is i None h = absurd (true≢false (sym h))
  lead_is i (Some l) h = (l, refl, eqb-true l.index i h)

  no_lead : (lead : Lead) → (None ≡ Some lead) → ⊥
  no_lead lead e = cc

  -- an offer counts where no earlier choice elsewhere is eligible, and none of its applicant before it counts
  pub by_order : CountsByOrder market t P
  by_order o o_in = (forth, back)
    where
      es : List Entry
      es = list_of market o.app.0

      its : IsIn o.app.0 0 es o
      its = All-contains (λ x. IsIn x.app.0 0 (list_of market x.app.0) x) (choices_in market P) o (all_in (applicant_numbers market)) o_in

      index_of : (x : Offer) → x.app.0 ≡ o.app.0 → counts market t P x ≡ true → (l : Lead) × (lead_of market t P es ≡ Some l) × (l.index ≡ x.index)
      index_of x app h = lead_is x.index (lead_of market t P es) (subst (λ (a : ℕ). is_lead x.index (lead_of market t P (list_of market a)) ≡ true) app h)

      none_first : counts market t P o ≡ true → (x : Offer) → Contains (choices_in market P) x → x.app.0 ≡ o.app.0 → comes_before x o ≡ true → counts market t P x ≡ false
      none_first h x x_in app first = elim (cases_Bool (counts market t P x)) [
        | inl hit ↦
            let w = index_of o refl h in
            let v = index_of x app hit in
            let one : Some w.0 ≡ Some v.0 = sym w.1 ∙ v.1 in
            let same : w.0 ≡ v.0 = cc in
            let k = ap (λ (l : Lead). l.index) same in
            let index : x.index ≡ o.index = let a = w.2 in let b = v.2 in omega (arith, k, a, b) in
            let it = subst (λ (a : ℕ). IsIn a 0 (list_of market a) x) app (All-contains (λ y. IsIn y.app.0 0 (list_of market y.app.0) y) (choices_in market P) x (all_in (applicant_numbers market)) x_in) in
            let it_index = it.index in
            let its_index = its.index in
            let j : it.j ≡ its.j = omega (arith, it_index, its_index, index) in
            let scores : x.score ≡ o.score = it.score ∙ (ap (λ (n : ℕ). (get_or es n no_entry).score) j ∙ sym its.score) in
            absurd (never_first x o app scores index first)
        | inr miss ↦ miss
      ]

      forth : counts market t P o ≡ true → (is_open market t P o ≡ true) × NoneBefore market t P o
      forth h =
          let w = lead_is o.index (lead_of market t P es) h in
          let l : Lead = w.0 in
          elim (lead_at None 0 es l w.1) [
            | inl none ↦ absurd (no_lead l none)
            | inr at ↦
                let at_index = at.index in
                let its_index = its.index in
                let same : at.j ≡ o.index = let e = w.2 in omega (arith, e, at_index) in
                let its_j : its.j ≡ o.index = omega (arith, its_index) in (
                  ap not (subst (λ (n : ℕ). list_any blocks (take n es) ≡ false) same at.free),
                  λ x x_in app first. none_first h x x_in app first,
                )
          ]

      off : is_open market t P o ≡ true → list_any blocks (take o.index es) ≡ false
      off h = elim (cases_Bool (list_any blocks (take o.index es))) [
        | inl hit ↦ let k : false ≡ true = rw hit at h in absurd (true≢false (sym k))
        | inr miss ↦ miss
      ]

      back_by : (lead : Option Lead) → lead_of market t P es ≡ lead → NoneBefore market t P o → AtLeast (0 + its.j) (get_or es its.j no_entry).score lead → counts market t P o ≡ true
      back_by None is none least = absurd least
      back_by (Some l) is none least = elim (cases_eq l.index o.index) [
        | inl same ↦ ap (is_lead o.index) is ∙ eq-eqb l.index o.index same
        | inr other ↦ elim (lead_at None 0 es l is) [
          | inl never ↦ absurd (no_lead l never)
          | inr at ↦
              let a : ℕ = o.app.0 in
              let at_index = at.index in
              let its_index = its.index in
              let its_score = its.score in
              let at_score = at.score in
              let x : Offer = offer_of a at.j (get_or es at.j no_entry) in
              let choice = All-contains (IsChoice market) (choices_in market P) o (choices_are market P) o_in in
              let app_in = choice.app in
              let x_in : Contains (choices_in market P) x = flat_in (offers_by market P) 0 (length market.lists) a x (omega arith) (omega (arith, app_in)) (let z : 0 + at.j ≡ at.j = omega arith in rw z at (to_in a 0 es at.j at.within at.pool)) in
              let hit : counts market t P x ≡ true = ap (is_lead at.j) is ∙ eq-eqb l.index at.j (omega (arith, at_index)) in
              let earlier : (o.score < x.score) ⊎ ((o.score ≡ x.score) × (x.index < o.index)) = elim least [
                | inl more ↦ inl (omega (arith, more, its_score, at_score))
                | inr tied ↦ let e = tied.0 in let n = tied.1 in inr (omega (arith, e, its_score, at_score), omega (arith, n, at_index, its_index, other))
              ] in
              absurd (true≢false (sym hit ∙ none x x_in refl (first_of x o refl earlier)))
        ]
      ]

      back : (is_open market t P o ≡ true) × NoneBefore market t P o → counts market t P o ≡ true
      back h =
          let its_index = its.index in
          let j : its.j ≡ o.index = omega (arith, its_index) in
          let free : list_any blocks (take its.j es) ≡ false = subst (λ (n : ℕ). list_any blocks (take n es) ≡ false) (sym j) (off h.0) in
          back_by (lead_of market t P es) refl h.1 (lead_least None 0 es its.j tt its.within its.pool free)
