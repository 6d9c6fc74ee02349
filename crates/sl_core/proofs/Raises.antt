-- A raise keeps the parts.
use Rattle.std.proofs.Common.{◌≡◌, ℕ, zero, suc, ◌-◌, ◌<◌, ◌≤◌, true, false, true≢false, ◌&&◌, max, List, [], ◌∷◌, ◌++◌, All, length, take, get_or, set, nat_lt, nat_eq, sym, refl, ap, ◌∙◌, subst, inl, inr, arith, length-set, length-append, get_or-set_other, get_or-set_same}
use Rattle.std.specs.Prelude.{slice_index}
use Rattle.std.proofs.Math.Seq.{take-append_seam}
use Rattle.std.proofs.lemmas.Bool.{cases_eq, cases_lt, cases_Bool, and_parts, and_from, and_cases, eqb-true, eq-eqb, ltb-false, cond_both, cond-true, or_left, or_right}
use Rattle.std.proofs.lemmas.List.Elements.{All-append}
use Rattle.std.proofs.lemmas.List.Folds.{list_any_at, list_any-append}
use Rattle.std.proofs.lemmas.List.FromFn.{get_or-map-range_with_len, length-map-range_with_len}
use Rattle.sl_types.specs.declared.kinds.PoolId.{PoolId}
use Rattle.sl_types.specs.declared.kinds.Raise.{Raise}
use Rattle.sl_types.specs.declared.kinds.Logged.{Logged}
use Rattle.sl_types.specs.Market.{Market}
use Rattle.sl_types.specs.WellFormed.{IsWellFormed}
use Rattle.sl_laws.specs.Limits.{effective_limit}
use Rattle.sl_laws.specs.Stable.{Feeds, IsSettled, feeds}
use Rattle.sl_laws.specs.Best.{best_raise}
use Rattle.sl_laws.proofs.Nest.{le_limit, lies_own}
use Rattle.sl_laws.proofs.Local.{stays_settled}
use Rattle.sl_core.specs.declared.kinds.Phase.{Phase}
use Rattle.sl_core.specs.declared.kinds.Phase.TheVariants.{Idle, Working, Ready, Drawn, Owing}
use Rattle.sl_core.specs.State.{Actor, State, actor_at}
use Rattle.sl_core.specs.Machine.{has_any, fed_pools, still_owes, actor_after_raise, may_raise, after_raising_by, after_raising}
use Rattle.sl_core.specs.Parts.{IsLogged, has_raise, done_log, has_in_hand, IsFresh, IsCovered, HasFound, EndsIn, FitsPhase, HasParts}
use Rattle.sl_core.proofs.Actors.{set_keeps, up_within, some_set, some_here}
use Rattle.sl_core.proofs.Moves.{moved, Brings, raised_on, keeps}
use Rattle.sl_core.proofs.Covers.{SameFeeding, feeding_all, covers_on, settled_by}
use Rattle.sl_core.proofs.Reading.{all_made}

-- what holds of a log but for its last entry, and of that entry, holds of the log
all_of : (F : Logged → Type 0) (before log : List Logged) (e : Logged) → log ≡ before ++ e ∷ [] → All F (take (length log - 1) log) → F e → All F log
all_of F before log e is done last =
    let ends : List Logged = before ++ e ∷ [] in
    let all : All F (take (length ends - 1) ends) = subst (λ l. All F (take (length l - 1) l)) is done in
    let count : length ends - 1 ≡ length before = let n = length-append before (e ∷ []) in omega (arith, n) in
    let front : All F before = subst (All F) (ap (λ (n : ℕ). take n ends) count ∙ take-append_seam before (e ∷ [])) all in
    subst (All F) (sym is) (All-append F before (e ∷ []) front (one last))
  where
    one : F e → All F (e ∷ [])
    one f zero d h = f
    one f (suc k) d h = absurd (omega (arith, h))

-- the last entry's raise is one of the log's
ends_has : (log : List Logged) (P : PoolId) (x : ℕ) → EndsIn log (record { pool = P; limit = x }) → has_raise P.0 x log ≡ true
ends_has log P x (before, e, is, same) =
    let pool : e.pool.0 ≡ P.0 = ap (λ (r : Raise). r.pool.0) same in
    let limit : e.limit ≡ x = ap (λ (r : Raise). r.limit) same in
    ap (has_raise P.0 x) is ∙ (list_any-append (λ d. nat_eq d.pool.0 P.0 && nat_eq d.limit x) before (e ∷ [])
    ∙ or_right (has_raise P.0 x before) (has_raise P.0 x (e ∷ [])) (or_left (nat_eq e.pool.0 P.0 && nat_eq e.limit x) false (and_from (nat_eq e.pool.0 P.0) (nat_eq e.limit x) (eq-eqb e.pool.0 P.0 pool) (eq-eqb e.limit x limit))))

module _ (market : Market) (ok : IsWellFormed market) (kept : List Raise) (s : State) (i : ℕ) (p : HasParts market kept s) (inside : i < length s.actors)
    (P : PoolId) (x : ℕ) (is : (actor_at s i).phase ≡ Drawn P x) where
  abbrev a : Actor
  a = actor_at s i

  abbrev word : ℕ
  word = slice_index s.limits P.0

  abbrev limits : List ℕ
  limits = set s.limits P.0 (max word x)

  abbrev b : Actor
  b = actor_after_raise market P x a word

  was : HasFound market a P.0 x × EndsIn a.log (record { pool = P; limit = x })
  was = subst (FitsPhase market a) is (p.in_phase i inside)

  within : P.0 < length market.pools
  within = was.0.reading.within

  here : slice_index limits P.0 ≡ max word x
  here = get_or-set_same s.limits P.0 (max word x) 0 (omega (arith, within, p.sized.limits))

  rise : (R : ℕ) → slice_index s.limits R ≤ slice_index limits R
  rise R = elim (cases_eq R P.0) [
    | inl same ↦ subst (λ (S : ℕ). slice_index s.limits S ≤ slice_index limits S) (sym same) (omega (arith, here))
    | inr other ↦ let else' = get_or-set_other s.limits P.0 R (max word x) 0 other in omega (arith, else')
  ]

  logged_max : IsLogged s P.0 (max word x)
  logged_max = elim (cases_lt word x) [
    | inl up ↦ let is_x : max word x ≡ x = omega (arith, up) in subst (IsLogged s P.0) (sym is_x) (inr (i, inside, ends_has a.log P x was.1))
    | inr down ↦ let is_word : max word x ≡ word = omega (arith, down) in subst (IsLogged s P.0) (sym is_word) (p.logged.limits P.0)
  ]

  -- what the actor knows afterwards
  known_high : (R : ℕ) → (slice_index b.known R ≤ slice_index limits R) × (slice_index a.reads R ≤ slice_index b.known R)
  known_high = set_keeps a.known P.0 (max word x) (λ R y. (y ≤ slice_index limits R) × (slice_index a.reads R ≤ y))
      (λ R. let low = p.known i inside R in let up = rise R in (omega (arith, low.0, up), low.1))
      (let low = p.known i inside P.0 in (omega (arith, here), omega (arith, low.0, low.1)))

  log_done : All (λ e. e.limit ≤ slice_index limits e.pool.0) a.log
  log_done =
      let done = subst (λ (ph : Phase). All (λ e. e.limit ≤ slice_index s.limits e.pool.0) (done_log ph a.log)) is (p.raised i inside) in
      let last = was.1 in
      let pool : last.1.pool.0 ≡ P.0 = ap (λ (r : Raise). r.pool.0) last.3 in
      let limit : last.1.limit ≡ x = ap (λ (r : Raise). r.limit) last.3 in
      let there : slice_index limits last.1.pool.0 ≡ slice_index limits P.0 = ap (slice_index limits) pool in
      all_of (λ e. e.limit ≤ slice_index limits e.pool.0) last.0 a.log last.1 last.2
      (raised_on s.limits limits (take (length a.log - 1) a.log) rise done) (omega (arith, limit, there, here))

  -- what holds of both phases that may follow holds of the one that does
  next : (F : Phase → Type 0) → F (Owing P) → F Idle → F b.phase
  next F owing' idle = cond_both (nat_lt word x && has_any (fed_pools market P.0)) (Owing P) Idle F (λ more. owing') (λ none. idle)

  -- where the word doesn't rise, or P doesn't feed R, the words that feed R stay
  same_feeding : (R : ℕ) → (nat_lt word x && feeds market P.0 R) ≡ false → SameFeeding market R s.limits limits
  same_feeding R not_both S h feed = elim (cases_eq S P.0) [
    | inl same ↦ elim (and_cases (nat_lt word x) (feeds market P.0 R) not_both) [
      | inl still ↦ let low = ltb-false word x still in subst (λ (T : ℕ). slice_index s.limits T ≡ slice_index limits T) (sym same) (omega (arith, low, here))
      | inr away ↦ absurd (true≢false (sym feed ∙ (ap (λ (T : ℕ). feeds market T R) same ∙ away)))
    ]
    | inr other ↦ sym (get_or-set_other s.limits P.0 S (max word x) 0 other)
  ]

  long : length limits ≡ length market.pools
  long = length-set s.limits P.0 (max word x) ∙ p.sized.limits

  -- the pool in hand is settled, where its reads are fresh
  own_cover : (R : ℕ) → R < length market.pools → SameFeeding market R s.limits limits → IsFresh market s.limits R a → IsSettled market (slice_index limits) R
  own_cover R h feeding fresh =
      let same : P.0 ≡ R = eqb-true P.0 R (subst (λ (ph : Phase). has_in_hand R ph ≡ true) is fresh.in_hand) in
      let own = le_limit market (slice_index limits) P.0 P.0 (lies_own market P.0) in
      let low : best_raise market (slice_index a.reads) P.0 ≤ effective_limit market (slice_index limits) P.0 = let best = was.0.best in omega (arith, own, here, best) in
      settled_by market ok a.reads limits R h (p.sized.actors i inside).reads long
      (λ S k feed. fresh.equal S k feed (all_made market P.0 a.made was.0.all S k (or_right (nat_eq S P.0) (feeds market S P.0) (subst (λ (T : ℕ). Feeds market S T) (sym same) feed))) ∙ feeding S k feed)
      (subst (λ (T : ℕ). best_raise market (slice_index a.reads) T ≤ effective_limit market (slice_index limits) T) same low)

  covered_same : (R : ℕ) → R < length market.pools → SameFeeding market R s.limits limits → IsCovered market (moved s i b limits s.flags) R
  covered_same R h feeding = covers_on market s i inside b limits s.flags R (λ flag. inl flag)
      (λ owes. absurd (true≢false (sym (subst (λ (ph : Phase). still_owes ph a.owed R ≡ true) is owes)))) feeding
      (λ fresh. inr (inr (inr (own_cover R h feeding fresh))))
      (stays_settled market ok (slice_index s.limits) (slice_index limits) R h (feeding_all market R s.limits limits p.sized.limits long feeding) (rise R))
      (p.covered R h)

  covered_owed : (R : ℕ) → R < length market.pools → (nat_lt word x && feeds market P.0 R) ≡ true → IsCovered market (moved s i b limits s.flags) R
  covered_owed R h both =
      let parts = and_parts (nat_lt word x) (feeds market P.0 R) both in
      let fed : get_or (fed_pools market P.0) R false ≡ true = get_or-map-range_with_len (λ Q. feeds market P.0 Q) 0 (length market.pools) R R false h (omega arith) ∙ parts.1 in
      let any : has_any (fed_pools market P.0) ≡ true = list_any_at (λ flag. flag) (fed_pools market P.0) R false (up_within (fed_pools market P.0) R fed) fed in
      let owes : b.phase ≡ Owing P = cond-true (nat_lt word x && has_any (fed_pools market P.0)) (Owing P) Idle (and_from (nat_lt word x) (has_any (fed_pools market P.0)) parts.0 any) in
      inr (inl (some_here s.actors i b (λ d. still_owes d.phase d.owed R ≡ true) inside (subst (λ (ph : Phase). still_owes ph (fed_pools market P.0) R ≡ true) (sym owes) fed)))

  brings : Brings market s i b limits s.flags
  brings = let sizes = p.sized.actors i inside in record {
    log = refl;
    sizes = record { known = length-set a.known P.0 (max word x) ∙ sizes.known; reads = sizes.reads; made = sizes.made; left = sizes.left; owed = fed_length };
    long = long;
    flagged = p.sized.flags;
    rise = rise;
    words = set_keeps s.limits P.0 (max word x) (IsLogged s) p.logged.limits logged_max;
    knows = set_keeps a.known P.0 (max word x) (IsLogged s) (p.logged.known i inside) logged_max;
    reads = p.logged.reads i inside;
    raised = next (λ ph. All (λ e. e.limit ≤ slice_index limits e.pool.0) (done_log ph a.log)) log_done log_done;
    known = known_high;
    phase = next (FitsPhase market b) within tt;
    covered = λ R h. elim (cases_Bool (nat_lt word x && feeds market P.0 R)) [
      | inl both ↦ covered_owed R h both
      | inr not_both ↦ covered_same R h (same_feeding R not_both)
    ];
    left = λ R h flag. some_set s.actors i b (λ d. get_or d.left R false ≡ true) (λ d. get_or d.left R false ≡ true) inside (λ d f. f) (λ f. f) (p.left R h flag);
  } where
    fed_length : length (fed_pools market P.0) ≡ length market.pools
    fed_length = length-map-range_with_len (λ Q. feeds market P.0 Q) 0 (length market.pools)

  pub kept_by_raise : HasParts market kept (moved s i b limits s.flags)
  kept_by_raise = keeps market kept s i p inside b limits s.flags brings

by_phase : (market : Market) → IsWellFormed market → (kept : List Raise) (s : State) (i : ℕ) → HasParts market kept s → i < length s.actors → (ph : Phase) → (actor_at s i).phase ≡ ph → may_raise ph ≡ true → HasParts market kept (after_raising_by market ph s i)
by_phase market ok kept s i p inside Idle is may = absurd (true≢false (sym may))
by_phase market ok kept s i p inside (Working P) is may = absurd (true≢false (sym may))
by_phase market ok kept s i p inside (Ready P x) is may = absurd (true≢false (sym may))
by_phase market ok kept s i p inside (Drawn P x) is may = kept_by_raise market ok kept s i p inside P x is
by_phase market ok kept s i p inside (Owing P) is may = absurd (true≢false (sym may))

pub raises_keep : (market : Market) → IsWellFormed market → (kept : List Raise) (s : State) (i : ℕ) → HasParts market kept s → i < length s.actors → may_raise (actor_at s i).phase ≡ true → HasParts market kept (after_raising market s i)
raises_keep market ok kept s i p inside may = by_phase market ok kept s i p inside (actor_at s i).phase refl may
