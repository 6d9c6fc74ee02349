-- The laws of all rules together.
use Rattle.std.proofs.Common.{◌≡◌, ◌≢◌, ◌⊎◌, ℕ, ◌+◌, ◌<◌, ◌≤◌, true, false, List, [], ◌∷◌, length, refl, sym, ap, ◌∙◌, arith, inl, inr, ⊎_elim, true≢false, max, nat_eq, nat_le, subst, eqb-true, leb-true, leb-false}
use Rattle.std.proofs.lemmas.Bool.{cases_Bool, cases_lt, cases_eq, or_cases}
use Rattle.std.proofs.lemmas.List.{get_or_past}
use Rattle.sl_types.specs.declared.kinds.Pool.{Pool}
use Rattle.sl_types.specs.declared.kinds.Raise.{Raise}
use Rattle.sl_types.specs.declared.kinds.Rule.{Rule}
use Rattle.sl_types.specs.declared.kinds.Rule.TheVariants.{H, L, Merit}
use Rattle.sl_types.specs.Market.{Market, rule_of, no_pool, lies_in}
use Rattle.sl_types.specs.WellFormed.{IsWellFormed}
use Rattle.sl_laws.specs.Limits.{Limits, effective_limit}
use Rattle.sl_laws.specs.Stable.{IsStable, Meets, IsJustified, IsJustifiedBy, IsSettled}
use Rattle.sl_laws.specs.Raises.{IsSound, IsVoid, EachRaise, zeros, after_raise, after_raises, limits_after, without_void_from}
use Rattle.sl_laws.specs.Laws.{IsScorePool, AtMost, PassesNoStableLimit, StaysJustified, DropsVoid, DecidingIsJustified, SoundPassesNone, ProvesTheLeast}
use Rattle.sl_laws.proofs.Effective.{with_limit_here, with_limit_else, effective_alone, among, round_alone}
use Rattle.sl_laws.proofs.Score.{score_passes_none, stays_by}
use Rattle.sl_laws.proofs.Least.{raised_at, raised_up, at_most_by, all_low, sound_by_replay, meets_by}
use Rattle.sl_laws.proofs.Nest.{limit_le, le_limit, lies_own}
use Rattle.sl_laws.proofs.Merit.{IsPeak, IsBacked, own_justified, stays_asked}
use Rattle.sl_laws.proofs.Passes.{passes_no_stable}
use Rattle.sl_laws.proofs.Fits.{deciding, limit_in, round_in, meets_merit}

module _ (market : Market) (ok : IsWellFormed market) where
  pub merit_in : (P : ℕ) → rule_of market P ≡ Merit → P < length market.pools
  merit_in P merit = elim (cases_lt P (length market.pools)) [
    | inl fine ↦ fine
    | inr past ↦ let h : rule_of market P ≡ H = ap (λ (p : Pool). p.rule) (get_or_past market.pools P no_pool past) in let k : H ≡ Merit = sym h ∙ merit in cc
  ]

  pub asked_of : (r : Limits) (P x : ℕ) (rule : Rule) → rule_of market P ≡ rule → IsJustified market r P x → IsJustifiedBy rule market r P x
  asked_of r P x rule is j = subst (λ (rule : Rule). IsJustifiedBy rule market r P x) is j

  pub just_of : (r : Limits) (P x : ℕ) (rule : Rule) → rule_of market P ≡ rule → IsJustifiedBy rule market r P x → IsJustified market r P x
  just_of r P x rule is j = subst (λ (rule : Rule). IsJustifiedBy rule market r P x) (sym is) j

  pub score_of : (P : ℕ) (rule : Rule) → rule_of market P ≡ rule → rule ≢ Merit → IsScorePool market P
  score_of P rule is plain m = plain (sym is ∙ m)

  pub h_plain : H ≢ Merit
  h_plain e = cc

  pub l_plain : L ≢ Merit
  l_plain e = cc

  -- each number that decides a limit was justified at limits of at most t
  abbrev IsMade : Limits → Type 0
  IsMade t = (P : ℕ) → P < length market.pools → IsPeak market t P → (r : Limits) × AtMost market r t × IsJustified market r P (t P)

  backed : (t : Limits) → IsMade t → IsBacked market ok t
  backed t made P merit peak = let m = made P (merit_in P merit) peak in (m.0, m.1, asked_of m.0 P (t P) Merit merit m.2)

  stays_at : (t : Limits) → IsMade t → (r : Limits) → AtMost market r t → (P x : ℕ) → (rule : Rule) → rule_of market P ≡ rule → IsJustifiedBy rule market r P x → (x ≤ effective_limit market t P) ⊎ IsJustifiedBy rule market t P x
  stays_at t made r most P x H is j = inr (stays_by market ok r t most P x (score_of P H is h_plain) H h_plain j)
  stays_at t made r most P x L is j = inr (stays_by market ok r t most P x (score_of P L is l_plain) L l_plain j)
  stays_at t made r most P x Merit is j = stays_asked market ok r t (backed t made) most P x is j

  stays : (t : Limits) → IsMade t → (r : Limits) → AtMost market r t → (P x : ℕ) → IsJustified market r P x → (x ≤ effective_limit market t P) ⊎ IsJustified market t P x
  stays t made r most P x j = stays_at t made r most P x (rule_of market P) refl j

  own_at : (t : Limits) → IsMade t → (P : ℕ) → P < length market.pools → IsPeak market t P → (rule : Rule) → rule_of market P ≡ rule → IsJustifiedBy rule market t P (t P)
  own_at t made P P_in peak H is = let m = made P P_in peak in stays_by market ok m.0 t m.1 P (t P) (score_of P H is h_plain) H h_plain (asked_of m.0 P (t P) H is m.2)
  own_at t made P P_in peak L is = let m = made P P_in peak in stays_by market ok m.0 t m.1 P (t P) (score_of P L is l_plain) L l_plain (asked_of m.0 P (t P) L is m.2)
  own_at t made P P_in peak Merit is = own_justified market ok t (backed t made) P is peak

  own : (t : Limits) → IsMade t → (P : ℕ) → P < length market.pools → IsPeak market t P → IsJustified market t P (t P)
  own t made P P_in peak = own_at t made P P_in peak (rule_of market P) refl

  up_to : (t : Limits) (r : Raise) → AtMost market t (after_raise t r)
  up_to t r = at_most_by market t (after_raise t r) (raised_up t r)

  -- a number that a raise leaves was made before it
  made_kept : (t : Limits) (r : Raise) → IsMade t → (P : ℕ) → P < length market.pools → IsPeak market (after_raise t r) P → after_raise t r P ≡ t P → (s : Limits) × AtMost market s (after_raise t r) × IsJustified market s P (after_raise t r P)
  made_kept t r made P P_in peak e =
      let first = peak.0 in
      let m = made P P_in (omega (arith, first, e), λ Q up ne. let a = raised_up t r Q in let b = peak.1 Q up ne in omega (arith, a, b, e)) in
      (m.0, (λ Q Q_in. let a = m.1 Q Q_in in let b = up_to t r Q Q_in in omega (arith, a, b)), subst (λ (x : ℕ). IsJustified market m.0 P x) (sym e) m.2)

  made_on : (t : Limits) (r : Raise) → IsVoid market t r ⊎ IsJustified market t r.pool.0 r.limit → IsMade t → IsMade (after_raise t r)
  made_on t r fair made P P_in peak = elim (cases_Bool (nat_eq P r.pool.0)) [
    | inr other ↦ made_kept t r made P P_in peak (with_limit_else t r.pool.0 (max (t r.pool.0) r.limit) P other)
    | inl same ↦
        let is : P ≡ r.pool.0 = eqb-true P r.pool.0 same in
        let e : after_raise t r P ≡ max (t r.pool.0) r.limit = ap (after_raise t r) is ∙ with_limit_here t r.pool.0 (max (t r.pool.0) r.limit) in
        let f : t P ≡ t r.pool.0 = ap t is in
        elim (cases_lt (t r.pool.0) r.limit) [
          | inr low ↦ made_kept t r made P P_in peak (omega (arith, e, f, low))
          | inl high ↦
              let g : after_raise t r P ≡ r.limit = omega (arith, e, high) in
              elim fair [
                | inr just ↦ (t, up_to t r, subst (λ (x : ℕ). IsJustified market t P x) (sym g) (subst (λ (Q : ℕ). IsJustified market t Q r.limit) (sym is) just))
                | inl void ↦ elim (deciding market ok t r.pool.0) [
                  | inl z ↦ absurd (omega (arith, z, void, high))
                  | inr found ↦
                      let k = found.3 in
                      let a = raised_up t r found.0 in
                      let b = peak.1 found.0 (subst (λ (Q : ℕ). lies_in market Q found.0 ≡ true) (sym is) found.1) (λ n. let h : t found.0 ≡ t P = ap t n in omega (arith, h, f, k, void, high)) in
                      absurd (omega (arith, a, b, g, k, void))
                ]
              ]
        ]
  ]

  made_by : (t : Limits) (c : List Raise) → EachRaise market (λ t r. IsVoid market t r ⊎ IsJustified market t r.pool.0 r.limit) t c → IsMade t → IsMade (after_raises t c)
  made_by t [] each made = made
  made_by t (r ∷ c) each made = made_by (after_raise t r) c each.2 (made_on t r each.1 made)

  made_zeros : IsMade zeros
  made_zeros P P_in peak = let h = peak.0 in absurd (omega (arith, h))

  made_sound : (c : List Raise) → IsSound market c → IsMade (limits_after c)
  made_sound c sound = made_by zeros c sound made_zeros

  -- Void raises.

  same_raised : (t u : Limits) (r : Raise) → AtMost market t u → AtMost market (after_raise t r) (after_raise u r)
  same_raised t u r most Q Q_in = limit_le market (after_raise t r) Q (effective_limit market (after_raise u r) Q) (λ R up.
      let k = le_limit market (after_raise u r) Q R up in
      let m = most Q Q_in in
      let a = le_limit market t Q R up in
      let b = up_to u r Q Q_in in
      raised_at (λ S x. (effective_limit market t Q ≤ effective_limit market (after_raise u r) Q) → (t S ≤ effective_limit market (after_raise u r) Q) → (after_raise u r S ≤ effective_limit market (after_raise u r) Q) → x ≤ effective_limit market (after_raise u r) Q) t r
      (λ S h i j. i) (λ h i j. let e = with_limit_here u r.pool.0 (max (u r.pool.0) r.limit) in omega (arith, i, j, e)) R (omega (arith, m, b)) (omega (arith, a, m, b)) k)

  void_low : (t : Limits) (r : Raise) → IsVoid market t r → AtMost market (after_raise t r) t
  void_low t r void Q Q_in = limit_le market (after_raise t r) Q (effective_limit market t Q) (λ R up.
      raised_at (λ S x. lies_in market Q S ≡ true → x ≤ effective_limit market t Q) t r (λ S h. le_limit market t Q S h)
      (λ h. let a = le_limit market t Q r.pool.0 h in let b = limit_in market ok t Q r.pool.0 h in omega (arith, a, b, void)) R up)

  unvoid_replays : (t u : Limits) (c : List Raise) → AtMost market t u → AtMost market u t → IsMade u → EachRaise market (λ t r. IsVoid market t r ⊎ IsJustified market t r.pool.0 r.limit) t c
      → EachRaise market (λ t r. (effective_limit market t r.pool.0 < r.limit) × IsJustified market t r.pool.0 r.limit) u (without_void_from market t c)
      × AtMost market (after_raises t c) (after_raises u (without_void_from market t c)) × AtMost market (after_raises u (without_void_from market t c)) (after_raises t c)
  unvoid_replays t u [] most least made each = (tt, most, least)
  unvoid_replays t u (r ∷ c) most least made each = elim (cases_Bool (nat_le r.limit (effective_limit market t r.pool.0))) [
    | inl void ↦
        let low = leb-true r.limit (effective_limit market t r.pool.0) void in
        let rest = unvoid_replays (after_raise t r) u c
        (λ Q Q_in. let a = void_low t r low Q Q_in in let b = most Q Q_in in omega (arith, a, b))
        (λ Q Q_in. let a = up_to t r Q Q_in in let b = least Q Q_in in omega (arith, a, b)) made each.2 in
        rw void rest
    | inr new ↦
        let high = leb-false r.limit (effective_limit market t r.pool.0) new in
        let low = least r.pool.0 each.0 in
        let just : IsJustified market t r.pool.0 r.limit = ⊎_elim (λ (void : IsVoid market t r). absurd (omega (arith, void, high))) (λ j. j) each.1 in
        let just' : IsJustified market u r.pool.0 r.limit = ⊎_elim (λ (void : r.limit ≤ effective_limit market u r.pool.0). absurd (omega (arith, void, high, low))) (λ j. j) (stays u made t most r.pool.0 r.limit just) in
        let rest = unvoid_replays (after_raise t r) (after_raise u r) c (same_raised t u r most) (same_raised u t r least) (made_on u r (inr just') made) each.2 in
        rw new ((each.0, (omega (arith, high, low), just'), rest.0), rest.1, rest.2)
  ]

  -- Limits that a list proves.

  passes_at : (l r : Limits) → IsStable market l → ((Q : ℕ) → Q < length market.pools → effective_limit market r Q ≤ l Q) → (P x : ℕ) → P < length market.pools → (rule : Rule) → rule_of market P ≡ rule → IsJustified market r P x → x ≤ l P
  passes_at l r stable most P x P_in H is j = score_passes_none market ok l r stable most P x P_in (score_of P H is h_plain) j
  passes_at l r stable most P x P_in L is j = score_passes_none market ok l r stable most P x P_in (score_of P L is l_plain) j
  passes_at l r stable most P x P_in Merit is j = passes_no_stable market ok l stable r (λ Q Q_in. let a = (stable Q Q_in).0 in let b = most Q Q_in in omega (arith, a, b)) P P_in is x (asked_of r P x Merit is j)

  all_low_of : (c : List Raise) → IsSound market c → (l : Limits) → IsStable market l → (P : ℕ) → limits_after c P ≤ l P
  all_low_of c sound l stable P = all_low market l stable
      (λ t most Q x Q_in just. passes_at l t stable (λ R R_in. let up = most R R_in in let same = (stable R R_in).0 in omega (arith, up, same)) Q x Q_in (rule_of market Q) refl just)
      zeros c (λ Q. omega arith) sound P

  -- effective limits are their own effective limits
  effective_twice : (t l : Limits) → ((Q : ℕ) → Q < length market.pools → effective_limit market t Q ≡ l Q) → (Q : ℕ) → Q < length market.pools → effective_limit market l Q ≡ effective_limit market t Q
  effective_twice t l are Q Q_in =
      let low = limit_le market l Q (effective_limit market t Q) (λ R up. let a = are R (round_in market ok Q R up Q_in) in let b = limit_in market ok t Q R up in omega (arith, a, b)) in
      let own' = le_limit market l Q Q (lies_own market Q) in
      let at = are Q Q_in in
      omega (arith, low, own', at)

  module _ (t l : Limits) (made : IsMade t) (settled : (P : ℕ) → P < length market.pools → IsSettled market t P) (are : (Q : ℕ) → Q < length market.pools → effective_limit market t Q ≡ l Q) where
    same : (Q : ℕ) → Q < length market.pools → effective_limit market l Q ≡ effective_limit market t Q
    same = effective_twice t l are

    meets_score : (P : ℕ) → P < length market.pools → (rule : Rule) → rule_of market P ≡ rule → rule ≢ Merit → Meets rule market l P
    meets_score P P_in rule is plain =
        let score = score_of P rule is plain in
        let here = are P P_in in
        let alone = effective_alone market ok P score t in
        let down : AtMost market l t = λ Q Q_in. let a = same Q Q_in in omega (arith, a) in
        let up : AtMost market t l = λ Q Q_in. let a = same Q Q_in in omega (arith, a) in
        meets_by market l P rule plain
        (λ j. settled P P_in (just_of t P (effective_limit market t P + 1) rule is (subst (λ (x : ℕ). IsJustifiedBy rule market t P (x + 1)) (sym here) (stays_by market ok l t down P (l P + 1) score rule plain j))))
        (elim (cases_eq (l P) 0) [
          | inl z ↦ inl z
          | inr some' ↦
              let e : t P ≡ l P = sym alone ∙ here in
              let peak : IsPeak market t P = (omega (arith, e, some'), λ Q round ne. absurd (ne (alone_round P score Q round))) in
              inr (stays_by market ok t l up P (l P) score rule plain (subst (λ (x : ℕ). IsJustifiedBy rule market t P x) e (asked_of t P (t P) rule is (own t made P P_in peak))))
        ])
      where
        alone_round : (P : ℕ) → IsScorePool market P → (Q : ℕ) → lies_in market P Q ≡ true → Q ≡ P
        alone_round P score Q round = ⊎_elim (λ e. sym (eqb-true P Q e)) (λ f. absurd (true≢false (sym f))) (or_cases (nat_eq P Q) false (sym (ap (among Q) (round_alone market ok P score)) ∙ round))

    meets_at : (P : ℕ) → P < length market.pools → (rule : Rule) → rule_of market P ≡ rule → Meets rule market l P
    meets_at P P_in H is = meets_score P P_in H is h_plain
    meets_at P P_in L is = meets_score P P_in L is l_plain
    meets_at P P_in Merit is = meets_merit market ok t l same
        (λ Q Q_in merit asked. settled Q Q_in (just_of t Q (effective_limit market t Q + 1) Merit merit asked))
        (λ Q merit peak. asked_of t Q (t Q) Merit merit (own t made Q (merit_in Q merit) peak))
        P P_in is (sym (are P P_in))

    stable_of : IsStable market l
    stable_of P P_in = (same P P_in ∙ are P P_in, meets_at P P_in (rule_of market P) refl)

-- a justified raise passes no stable limit
pub passes_no_stable_limit : (market : Market) → IsWellFormed market → PassesNoStableLimit market
passes_no_stable_limit market ok l r stable most P x P_in j = passes_at market ok l r stable most P x P_in (rule_of market P) refl j

-- a justified raise stays justified until it is overtaken
pub stays_justified : (market : Market) → IsWellFormed market → StaysJustified market
stays_justified market ok c sound r most P x j = stays market ok (limits_after c) (made_sound market ok c sound) r most P x j

-- void raises can be dropped
pub drops_void : (market : Market) → IsWellFormed market → DropsVoid market
drops_void market ok c sound =
    let all = unvoid_replays market ok zeros zeros c (λ Q Q_in. omega arith) (λ Q Q_in. omega arith) (made_zeros market ok) sound in
    (all.0, λ Q Q_in. let a = all.1 Q Q_in in let b = all.2 Q Q_in in omega (arith, a, b))

-- the number that decides a pool's limit is itself justified
pub deciding_is_justified : (market : Market) → IsWellFormed market → DecidingIsJustified market
deciding_is_justified market ok c sound P P_in some' over = own market ok (limits_after c) (made_sound market ok c sound) P P_in (some', over)

-- no sound list passes a stable limit
pub sound_passes_none : (market : Market) → IsWellFormed market → SoundPassesNone market
sound_passes_none market ok c sound l stable P = all_low_of market ok c sound l stable P

-- a list that proves limits proves them the least
pub proves_the_least : (market : Market) → IsWellFormed market → ProvesTheLeast market
proves_the_least market ok c l proves =
    let sound : IsSound market c = sound_by_replay market zeros c proves.0 in (
      stable_of market ok (limits_after c) l (made_sound market ok c sound) (λ P P_in. (proves.1 P P_in).0) (λ P P_in. (proves.1 P P_in).1),
      λ m stable P P_in.
          let at = (proves.1 P P_in).1 in
          let low = limit_le market (limits_after c) P (m P) (λ Q up.
          let a = all_low_of market ok c sound m stable Q in
          let b = le_limit market m P Q up in
          let e = (stable P P_in).0 in
          omega (arith, a, b, e)) in
          omega (arith, at, low),
    )
