-- Limits that are settled, and of which each number was asked for, meet the merit condition.
use Rattle.std.proofs.Common.{◌≡◌, ◌≢◌, ◌⊎◌, ℕ, zero, suc, ◌+◌, ◌<◌, ◌≤◌, Bool, true, false, ◌&&◌, ◌||◌, List, [], ◌∷◌, get_or, length, filter, Option, Some, None, refl, sym, ap, ◌∙◌, arith, inl, inr, true≢false, min, max, nat_eq, nat_le, subst, eqb-true, leb-true, leb-false, le-leb}
use Rattle.std.proofs.lemmas.Bool.{cases_Bool, or_cases, and_from, cases_lt, cases_eq}
use Rattle.std.proofs.lemmas.List.Elements.{All-from_get_or}
use Rattle.std.specs.List.{range_with_len}
use Rattle.sl_types.specs.declared.kinds.Entry.{Entry}
use Rattle.sl_types.specs.declared.kinds.PoolId.{PoolId}
use Rattle.sl_types.specs.declared.kinds.Rule.TheVariants.{Merit}
use Rattle.sl_types.specs.declared.kinds.TheConstants.{MAX_DEPTH}
use Rattle.sl_types.specs.Market.{Market, pool_of, quota_of, rule_of, parent_of, is_parent, chain_of, lies_in}
use Rattle.sl_types.specs.WellFormed.{IsWellFormed}
use Rattle.sl_laws.specs.Limits.{Limits, with_limit, greatest_of, effective_limit, is_eligible, is_admitted_in, admitted_choice, count_in, capped_demand, passes, bar}
use Rattle.sl_laws.specs.Stable.{MeetsMerit}
use Rattle.sl_laws.proofs.Lists.{filter_more, sum_by_filter_le, find_is}
use Rattle.sl_laws.proofs.Effective.{among}
use Rattle.sl_laws.proofs.Nest.{is_child, depth, own_round, shallow, depth_child, limit_child, lies_own, lies_cases, lies_child, limit_le, le_limit, greatest_le, le_greatest, without_le, le_without, merit_child, takes}
use Rattle.sl_laws.proofs.Direct.{Reaches, directly_le, passes_some}
use Rattle.sl_laws.proofs.Parts.{has_parent, child_in, lies_depth, is_within, admitted_within, parts}
use Rattle.sl_laws.proofs.Cover.{cover}
use Rattle.sl_laws.proofs.Full.{within_le, lowest_within, full_bar, bar_fills}
use Rattle.sl_laws.proofs.Merit.{IsPeak, IsAsked}
use Rattle.sl_laws.proofs.Local.{lies_trans}

-- a filter keeps one more at most, where at most one element passes p and not q
filter_almost : {A : Type 0} (p q : A → Bool) (d : A) (xs : List A)
    → ((i j : ℕ) → i ≢ j → i < length xs → j < length xs → p (get_or xs i d) ≡ true → q (get_or xs i d) ≡ false → p (get_or xs j d) ≡ true → q (get_or xs j d) ≡ false → ⊥)
    → length (filter p xs) ≤ length (filter q xs) + 1
filter_almost p q d [] apart = omega arith
filter_almost p q d (x ∷ xs) apart =
    let rest = filter_almost p q d xs (λ i j ne i_in j_in. apart (suc i) (suc j) (λ e. ne (omega arith)) (omega arith) (omega arith)) in
    elim (cases_Bool (p x)) [
      | inl hit ↦ elim (cases_Bool (q x)) [
        | inl also ↦ rw (hit, also) (omega (arith, rest))
        | inr out ↦
            let others = filter_more p q xs (All-from_get_or (λ y. p y ≡ true → q y ≡ true) xs d (λ k k_in passes'. elim (cases_Bool (q (get_or xs k d))) [
              | inl fine ↦ fine
              | inr bad ↦ absurd (apart 0 (suc k) (λ e. omega arith) (omega arith) (omega arith) hit out passes' bad)
            ])) in
            rw (hit, out) (omega (arith, others))
      ]
      | inr miss ↦ elim (cases_Bool (q x)) [
        | inl also ↦ rw (miss, also) (omega (arith, rest))
        | inr out ↦ rw (miss, out) rest
      ]
    ]

module _ (market : Market) (ok : IsWellFormed market) where
  -- a limit inside P is at least P's
  pub limit_in : (t : Limits) (C P : ℕ) → lies_in market C P ≡ true → effective_limit market t P ≤ effective_limit market t C
  limit_in t C P within = limit_le market t P (effective_limit market t C) (λ Q up. le_limit market t C Q (lies_trans market ok C P Q within up))

  parent_fits : (C D : ℕ) (o : Option PoolId) → parent_of market D ≡ o → is_parent C o ≡ true → (C < length market.pools) × (rule_of market C ≡ Merit)
  parent_fits C D None e h = absurd (true≢false (sym h))
  parent_fits C D (Some Q) e h =
      let is = eqb-true Q.0 C h in
      (subst (λ (R : ℕ). R < length market.pools) is (ok.parents D Q e), subst (λ (R : ℕ). rule_of market R ≡ Merit) is (ok.nesting D Q e).1)

  -- the pools round a pool are pools, and merit pools round a merit pool
  round_fits_from : (n P Q : ℕ) → depth market P ≤ n → lies_in market P Q ≡ true → P < length market.pools → (Q < length market.pools) × (rule_of market P ≡ Merit → rule_of market Q ≡ Merit)
  round_fits_from zero P Q h up P_in = let a = ap length (own_round market P) in absurd (omega (arith, a, h))
  round_fits_from (suc n) P Q h up P_in = elim (has_parent market P (parent_of market P) refl) [
    | inl top ↦
        let e : nat_eq P Q || false ≡ true = sym (ap (among Q) top.0) ∙ up in
        elim (or_cases (nat_eq P Q) false e) [
          | inl same ↦ let is = eqb-true P Q same in subst (λ (R : ℕ). (R < length market.pools) × (rule_of market P ≡ Merit → rule_of market R ≡ Merit)) is (P_in, λ m. m)
          | inr never ↦ absurd (true≢false (sym never))
        ]
    | inr above ↦
        let R : ℕ = above.0 in
        let d = depth_child market ok R P above.1 in
        let R_fits = parent_fits R P (parent_of market P) refl above.1 in
        elim (lies_cases market ok R P Q above.1 up) [
          | inl same ↦ subst (λ (S : ℕ). (S < length market.pools) × (rule_of market P ≡ Merit → rule_of market S ≡ Merit)) same (P_in, λ m. m)
          | inr later ↦ let f = round_fits_from n R Q (omega (arith, d, h)) later R_fits.0 in (f.0, λ m. f.1 R_fits.1)
        ]
  ]

  -- the pools round a pool are pools
  pub round_in : (P Q : ℕ) → lies_in market P Q ≡ true → P < length market.pools → Q < length market.pools
  round_in P Q up P_in = (round_fits_from (depth market P) P Q (omega arith) up P_in).0

  -- the pools round a merit pool are merit pools
  pub round_merit : (P Q : ℕ) → lies_in market P Q ≡ true → P < length market.pools → rule_of market P ≡ Merit → rule_of market Q ≡ Merit
  round_merit P Q up P_in m = (round_fits_from (depth market P) P Q (omega arith) up P_in).1 m

  -- an effective limit is 0 or the number of a pool round P that decides it
  abbrev pub Deciding : Limits → ℕ → Type 0
  Deciding t P = (effective_limit market t P ≡ 0) ⊎ ((R : ℕ) × (lies_in market P R ≡ true) × IsPeak market t R × (effective_limit market t P ≡ t R))

  deciding_from : (t : Limits) (n P : ℕ) → depth market P ≤ n → Deciding t P
  deciding_from t zero P h = let a = ap length (own_round market P) in absurd (omega (arith, a, h))
  deciding_from t (suc n) P h = elim (has_parent market P (parent_of market P) refl) [
    | inl top ↦
        let e : effective_limit market t P ≡ max (t P) 0 = ap (greatest_of t) top.0 in
        elim (cases_eq (t P) 0) [
          | inl z ↦ inl (omega (arith, e, z))
          | inr some' ↦ inr (
            P,
            lies_own market P,
            (
              omega (arith, some'),
              λ Q up ne. elim (or_cases (nat_eq P Q) false (sym (ap (among Q) top.0) ∙ up)) [
                | inl same ↦ absurd (ne (sym (eqb-true P Q same)))
                | inr never ↦ absurd (true≢false (sym never))
              ],
            ),
            omega (arith, e),
          )
        ]
    | inr above ↦
        let R : ℕ = above.0 in
        let d = depth_child market ok R P above.1 in
        let e = limit_child market ok t R P above.1 in
        elim (cases_lt (effective_limit market t R) (t P)) [
          | inl high ↦ inr (
            P,
            lies_own market P,
            (
              omega (arith, high),
              λ Q up ne. elim (lies_cases market ok R P Q above.1 up) [
                | inl same ↦ absurd (ne (sym same))
                | inr later ↦ let low = le_limit market t R Q later in omega (arith, low, high)
              ],
            ),
            omega (arith, e, high),
          )
          | inr low ↦ elim (deciding_from t n R (omega (arith, d, h))) [
            | inl z ↦ inl (omega (arith, e, z, low))
            | inr found ↦ inr (found.0, lies_child market ok R P found.0 above.1 found.1, found.2, let f = found.3 in omega (arith, e, f, low))
          ]
        ]
  ]

  -- each effective limit is 0 or decided by a pool
  pub deciding : (t : Limits) (P : ℕ) → Deciding t P
  deciding t P = deciding_from t (depth market P) P (omega arith)

  -- t is settled for its merit pools, each number that decides a limit was asked for, and l has the same effective limits
  module _ (t l : Limits) (same : (Q : ℕ) → Q < length market.pools → effective_limit market l Q ≡ effective_limit market t Q)
      (calm : (P : ℕ) → P < length market.pools → rule_of market P ≡ Merit → IsAsked market t P (effective_limit market t P + 1) → ⊥)
      (own : (P : ℕ) → rule_of market P ≡ Merit → IsPeak market t P → IsAsked market t P (t P)) where
    -- those of merit above P's limit ask for a place, as long as the pools inside hold
    above_asks : (P : ℕ) → rule_of market P ≡ Merit → P < length market.pools → (x : ℕ) → effective_limit market t P < x
        → ((D : ℕ) → depth market P < depth market D → D < length market.pools → rule_of market D ≡ Merit → count_in market l D ≤ quota_of market D)
        → (n C : ℕ) → (MAX_DEPTH + 1) ≤ n + depth market C → C < length market.pools → lies_in market C P ≡ true → length (admitted_within market l C x) ≤ capped_demand market (with_limit t P 0) C x
    above_asks P merit P_in x above inner zero C deep C_in within = let a = shallow market ok C in absurd (omega (arith, a, deep))
    above_asks P merit P_in x above inner (suc n) C deep C_in within =
        let u = with_limit t P 0 in
        let reach : Reaches market P x l u = λ Q z Q_in h up. let s = same Q Q_in in let k = le_without market t P Q z h (λ w. let low = le_limit market t P P (lies_own market P) in let high = up w in omega (arith, low, above, high)) in omega (arith, s, k) in
        let s = same C C_in in
        let low = without_le market t P C in
        let direct = directly_le market ok P merit x l u reach x C (omega arith) within (omega (arith, s, low)) in
        let inside = sum_by_filter_le (is_child market C) (λ D. length (admitted_within market l D x)) (λ D. min (quota_of market D) (capped_demand market u D x)) (range_with_len 0 (length market.pools))
        (λ D e.
        let d = depth_child market ok C D e in
        let d' = lies_depth market ok C P within in
        let D_in = child_in market C D e in
        let fits = inner D (omega (arith, d, d')) D_in (merit_child market ok C D e) in
        let among' = within_le market l D x in
        let k = above_asks P merit P_in x above inner n D (omega (arith, d, deep)) D_in (lies_child market ok C D P e within) in
        omega (arith, fits, among', k)) in
        let whole = parts market ok l C x in
        let taken = takes market ok u C x in
        omega (arith, direct, inside, whole, taken)

    -- who is admitted in P has its limit at least
    admitted_high : (P : ℕ) (o : Option Entry) → ((e : Entry) → o ≡ Some e → effective_limit market l (pool_of market e) ≤ e.score) → passes (λ e. lies_in market (pool_of market e) P) o ≡ true
        → (e : Entry) × (o ≡ Some e) × (lies_in market (pool_of market e) P ≡ true) × (effective_limit market l P ≤ e.score)
    admitted_high P o able h =
        let w = passes_some (λ (e : Entry). lies_in market (pool_of market e) P) o h in
        let low = limit_in l (pool_of market w.0) P w.2 in
        let high = able w.0 w.1 in
        (w.0, w.1, w.2, omega (arith, low, high))

    able_of : (a : ℕ) (e : Entry) → admitted_choice market l (get_or market.lists a []) ≡ Some e → effective_limit market l (pool_of market e) ≤ e.score
    able_of a e is = leb-true (effective_limit market l (pool_of market e)) e.score (find_is (is_eligible market l) (get_or market.lists a []) e is).1

    exact : (P x : ℕ) (e : Entry) → passes (λ (e : Entry). lies_in market (pool_of market e) P && nat_le x e.score) (Some e) ≡ false → lies_in market (pool_of market e) P ≡ true → e.score < x
    exact P x e out within = elim (cases_Bool (nat_le x e.score)) [
      | inl high ↦ absurd (true≢false (sym (and_from (lies_in market (pool_of market e) P) (nat_le x e.score) within high) ∙ out))
      | inr low ↦ leb-false x e.score low
    ]

    almost : (P : ℕ) → rule_of market P ≡ Merit → count_in market l P ≤ length (admitted_within market l P (effective_limit market l P + 1)) + 1
    almost P merit = let x : ℕ = effective_limit market l P + 1 in
        filter_almost (is_admitted_in market l P) (is_within market l P x) [] market.lists
        (λ a b ne a_in b_in a_here a_out b_here b_out.
        let e = admitted_high P (admitted_choice market l (get_or market.lists a [])) (able_of a) a_here in
        let f = admitted_high P (admitted_choice market l (get_or market.lists b [])) (able_of b) b_here in
        let e_low = exact P x e.0 (subst (λ (o : Option Entry). passes (λ (e : Entry). lies_in market (pool_of market e) P && nat_le x e.score) o ≡ false) e.1 a_out) e.2 in
        let f_low = exact P x f.0 (subst (λ (o : Option Entry). passes (λ (e : Entry). lies_in market (pool_of market e) P && nat_le x e.score) o ≡ false) f.1 b_out) f.2 in
        let e_high = e.3 in
        let f_high = f.3 in
        ok.untied a b e.0 f.0 P ne (find_is (is_eligible market l) (get_or market.lists a []) e.0 e.1).0 (find_is (is_eligible market l) (get_or market.lists b []) f.0 f.1).0 merit e.2 f.2 (omega (arith, e_low, f_low, e_high, f_high)))

    few_above : (P : ℕ) → P < length market.pools → rule_of market P ≡ Merit
        → ((D : ℕ) → depth market P < depth market D → D < length market.pools → rule_of market D ≡ Merit → count_in market l D ≤ quota_of market D)
        → length (admitted_within market l P (effective_limit market t P + 1)) < quota_of market P
    few_above P P_in merit inner = elim (cases_lt (length (admitted_within market l P (effective_limit market t P + 1))) (quota_of market P)) [
      | inl few ↦ few
      | inr many ↦ let k = above_asks P merit P_in (effective_limit market t P + 1) (omega arith) inner (MAX_DEPTH + 1) P (omega arith) P_in (lies_own market P) in absurd (calm P P_in merit (omega (arith, k, many)))
    ]

    fits_from : (n P : ℕ) → (MAX_DEPTH + 1) ≤ n + depth market P → P < length market.pools → rule_of market P ≡ Merit → count_in market l P ≤ quota_of market P
    fits_from zero P deep P_in merit = let a = shallow market ok P in absurd (omega (arith, a, deep))
    fits_from (suc n) P deep P_in merit =
        let few = few_above P P_in merit (λ D deeper D_in m. fits_from n D (omega (arith, deep, deeper)) D_in m) in
        let one = almost P merit in
        let at : length (admitted_within market l P (effective_limit market l P + 1)) ≡ length (admitted_within market l P (effective_limit market t P + 1)) = ap (λ (x : ℕ). length (admitted_within market l P (x + 1))) (same P P_in) in
        omega (arith, few, one, at)

    -- no merit pool admits more than its quota at l
    pub fits : (P : ℕ) → P < length market.pools → rule_of market P ≡ Merit → count_in market l P ≤ quota_of market P
    fits P P_in merit = fits_from (MAX_DEPTH + 1) P (omega arith) P_in merit

    -- a bar is at most the limit
    bar_low : (P : ℕ) → P < length market.pools → rule_of market P ≡ Merit → bar market l P ≤ effective_limit market t P
    bar_low P P_in merit = elim (cases_lt (effective_limit market t P) (bar market l P)) [
      | inl high ↦
          let filled = bar_fills market l P (effective_limit market t P + 1) (omega (arith, high)) (omega (arith, high)) in
          let few = few_above P P_in merit (λ D deeper D_in m. fits D D_in m) in
          absurd (omega (arith, filled, few))
      | inr fine ↦ fine
    ]

    -- a pool whose number decides its limit is full
    full_from : (n R : ℕ) → (MAX_DEPTH + 1) ≤ n + depth market R → R < length market.pools → rule_of market R ≡ Merit → IsPeak market t R → quota_of market R ≤ length (admitted_within market l R 0)
    full_from zero R deep R_in merit peak = let a = shallow market ok R in absurd (omega (arith, a, deep))
    full_from (suc n) R deep R_in merit peak =
        let u = with_limit t R 0 in
        let x : ℕ = t R in
        let reach : Reaches market R x u l = λ Q z Q_in h up. let s = same Q Q_in in let k = without_le market t R Q in omega (arith, s, k, h) in
        let top : effective_limit market t R ≤ x = limit_le market t R x (λ Q up. elim (cases_eq Q R) [ inl e ↦ (let k : t Q ≡ t R = ap t e in omega (arith, k)) | inr ne ↦ (let k = peak.1 Q up ne in omega (arith, k)) ]) in
        let filled = cover market u x (λ C. length (admitted_within market l C 0)) (λ C. (lies_in market C R ≡ true) × (depth market R ≤ depth market C) × (C < length market.pools) × (effective_limit market t C ≤ x))
        (λ C low.
        let s = same C low.2 in
        let f = low.3 in
        let direct = directly_le market ok R merit x u l reach 0 C (omega arith) low.0 (omega (arith, s, f)) in
        let inside = sum_by_filter_le (is_child market C) (λ D. min (quota_of market D) (length (admitted_within market l D 0))) (λ D. length (admitted_within market l D 0)) (range_with_len 0 (length market.pools)) (λ D e. omega arith) in
        let whole = parts market ok l C 0 in
        omega (arith, direct, inside, whole))
        (λ C D low e.
        let d = depth_child market ok C D e in
        let d' = low.1 in
        let f = low.3 in
        let g = limit_child market ok t C D e in
        let D_in = child_in market C D e in
        elim (cases_lt x (t D)) [
          | inl high ↦ inr (full_from n D (omega (arith, d, d', deep)) D_in (merit_child market ok C D e) (
            omega (arith, high),
            λ Q up ne. elim (lies_cases market ok C D Q e up) [
              | inl is ↦ absurd (ne (sym is))
              | inr later ↦ let k = le_limit market t C Q later in omega (arith, k, f, high)
            ],
          ))
          | inr small ↦ inl (lies_child market ok C D R e low.0, omega (arith, d, d'), D_in, omega (arith, g, f, small))
        ])
        R (lies_own market R, omega arith, R_in, top) in
        let asked = own R merit peak in
        omega (arith, filled, asked)

    -- and its bar is that number at least
    bar_high : (R : ℕ) → R < length market.pools → rule_of market R ≡ Merit → IsPeak market t R → t R ≤ bar market l R
    bar_high R R_in merit peak =
        let full = full_from (MAX_DEPTH + 1) R (omega arith) R_in merit peak in
        let among' = within_le market l R 0 in
        let held = fits R R_in merit in
        let q = ok.quotas R R_in in
        let own_low = le_limit market t R R (lies_own market R) in
        let s = same R R_in in
        let all : count_in market l R ≤ length (admitted_within market l R (t R)) =
        filter_more (is_admitted_in market l R) (is_within market l R (t R)) market.lists (All-from_get_or (λ cs. is_admitted_in market l R cs ≡ true → is_within market l R (t R) cs ≡ true) market.lists [] (λ a a_in h.
        let e = admitted_high R (admitted_choice market l (get_or market.lists a [])) (able_of a) h in
        let high = e.3 in
        subst (λ (o : Option Entry). passes (λ (e : Entry). lies_in market (pool_of market e) R && nat_le (t R) e.score) o ≡ true) (sym e.1)
        (and_from (lies_in market (pool_of market e.0) R) (nat_le (t R) e.0.score) e.2 (le-leb (t R) e.0.score (omega (arith, high, s, own_low)))))) in
        let low = lowest_within market l R (t R) (omega (arith, full, among', q)) all in
        let is = full_bar market l R (omega (arith, full, among', held)) in
        omega (arith, low, is)

    -- each merit pool meets the merit condition at l
    pub meets_merit : (P : ℕ) → P < length market.pools → rule_of market P ≡ Merit → l P ≡ effective_limit market t P → MeetsMerit market l P
    meets_merit P P_in merit at =
        let low = greatest_le (bar market l) (effective_limit market t P) (chain_of market P) (λ R up.
        let k = bar_low R (round_in P R up P_in) (round_merit P R up P_in merit) in
        let m = limit_in t P R up in omega (arith, k, m)) in
        let high : effective_limit market t P ≤ greatest_of (bar market l) (chain_of market P) = elim (deciding t P) [
          | inl z ↦ omega (arith, z)
          | inr found ↦
              let k = bar_high found.0 (round_in P found.0 found.1 P_in) (round_merit P found.0 found.1 P_in merit) found.2 in
              let m = le_greatest (bar market l) found.0 (chain_of market P) found.1 in
              let e = found.3 in
              omega (arith, k, m, e)
        ] in
        (fits P P_in merit, omega (arith, at, low, high))
