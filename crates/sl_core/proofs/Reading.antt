-- A read keeps the parts.
use Rattle.std.proofs.Common.{◌≡◌, ◌⊎◌, ℕ, ◌<◌, ◌≤◌, Bool, true, false, true≢false, not, ◌&&◌, List, All, length, get_or, set, nat_lt, nat_eq, sym, refl, ap, ◌∙◌, subst, inl, inr, arith, length-set, get_or-set_other}
use Rattle.std.specs.Prelude.{slice_index}
use Rattle.std.proofs.lemmas.Bool.{cases_eq, cases_Bool, and_parts, and_from, eqb-true, ltb-true, ltb-false, cond_both, or_right, not_from_false}
use Rattle.std.proofs.lemmas.Grind.{get_or-set_at}
use Rattle.sl_types.specs.declared.kinds.PoolId.{PoolId}
use Rattle.sl_types.specs.declared.kinds.Raise.{Raise}
use Rattle.sl_types.specs.Market.{Market}
use Rattle.sl_types.specs.WellFormed.{IsWellFormed}
use Rattle.sl_laws.specs.Limits.{effective_limit}
use Rattle.sl_laws.specs.Stable.{Feeds, IsSettled, feeds}
use Rattle.sl_laws.specs.Best.{best_raise}
use Rattle.sl_laws.proofs.Least.{at_most_by}
use Rattle.sl_core.specs.declared.kinds.Phase.{Phase}
use Rattle.sl_core.specs.declared.kinds.Phase.TheVariants.{Idle, Working, Ready, Drawn, Owing}
use Rattle.sl_core.specs.State.{Actor, State, actor_at}
use Rattle.sl_core.specs.Machine.{is_asked, lacks_read, may_read, phase_found, phase_after_read, worker_after_read, actor_after_read, after_read, still_owes}
use Rattle.sl_core.specs.Parts.{IsLogged, done_log, has_in_hand, IsFresh, IsCovered, AreLeft, IsReading, FitsPhase, HasParts}
use Rattle.sl_core.proofs.Actors.{none_passes, set_keeps, some_set, some_here}
use Rattle.sl_core.proofs.Moves.{moved, Brings, keeps}
use Rattle.sl_core.proofs.Covers.{covers_on, settled_by}

-- where no read is lacking, each read that is asked for is made
pub all_made : (market : Market) (P : ℕ) (made : List Bool) → lacks_read market P made ≡ false → (R : ℕ) → R < length market.pools → is_asked market P R ≡ true → get_or made R false ≡ true
all_made market P made all R h asked = elim (cases_Bool (get_or made R false)) [
  | inl yes_made ↦ yes_made
  | inr not_made ↦
      let none = none_passes (λ Q. is_asked market P Q && not (get_or made Q false)) 0 (length market.pools) R all (omega arith) (omega (arith, h)) in
      absurd (true≢false (sym (and_from (is_asked market P R) (not (get_or made R false)) asked (not_from_false (get_or made R false) not_made)) ∙ none))
]

-- a list that stays at most itself where one number is written no higher
module _ (market : Market) (kept : List Raise) (s : State) (i : ℕ) (Q : ℕ) (p : HasParts market kept s) (inside : i < length s.actors) where
  abbrev a : Actor
  a = actor_at s i

  abbrev word : ℕ
  word = slice_index s.limits Q

  -- what the actor knows afterwards
  abbrev known : List ℕ
  known = set a.known Q word

  knows : (R : ℕ) → IsLogged s R (slice_index known R)
  knows = set_keeps a.known Q word (IsLogged s) (p.logged.known i inside) (p.logged.limits Q)

  known_high : (R : ℕ) → (slice_index known R ≤ slice_index s.limits R) × (slice_index a.reads R ≤ slice_index known R)
  known_high = set_keeps a.known Q word (λ R x. (x ≤ slice_index s.limits R) × (slice_index a.reads R ≤ x)) (p.known i inside) (let low = p.known i inside Q in (omega arith, omega (arith, low.0, low.1)))

  -- the flags and what is left stay
  still_left : (b : Actor) → b.left ≡ a.left → AreLeft market (moved s i b s.limits s.flags)
  still_left b same R h flag = some_set s.actors i b (λ d. get_or d.left R false ≡ true) (λ d. get_or d.left R false ≡ true) inside (λ d f. f) (λ f. ap (λ l. get_or l R false) same ∙ f) (p.left R h flag)

  module _ (is : a.phase ≡ Idle) where
    abbrev idle_b : Actor
    idle_b = record a { known = known }

    idle_brings : Brings market s i idle_b s.limits s.flags
    idle_brings = let sizes = p.sized.actors i inside in record {
      log = refl;
      sizes = record { known = length-set a.known Q word ∙ sizes.known; reads = sizes.reads; made = sizes.made; left = sizes.left; owed = sizes.owed };
      long = p.sized.limits;
      flagged = p.sized.flags;
      rise = λ R. omega arith;
      words = p.logged.limits;
      knows = knows;
      reads = p.logged.reads i inside;
      raised = p.raised i inside;
      known = known_high;
      phase = subst (FitsPhase market idle_b) (sym is) tt;
      covered = λ R h. covers_on market s i inside idle_b s.limits s.flags R (λ flag. inl flag) (λ owes. owes) (λ S k feed. refl)
          (λ fresh. absurd (true≢false (sym (subst (λ (ph : Phase). has_in_hand R ph ≡ true) is fresh.in_hand)))) (λ st. st) (p.covered R h);
      left = still_left idle_b refl;
    }

    pub read_idle : HasParts market kept (moved s i idle_b s.limits s.flags)
    read_idle = keeps market kept s i p inside idle_b s.limits s.flags idle_brings

  module _ (ok : IsWellFormed market) (P : PoolId) (is : a.phase ≡ Working P) (within : Q < length market.pools) (asks : is_asked market P.0 Q ≡ true) where
    abbrev reads : List ℕ
    reads = set a.reads Q word

    abbrev made : List Bool
    made = set a.made Q true

    abbrev next : Phase
    next = phase_after_read market P reads made

    abbrev b : Actor
    b = worker_after_read market P a Q word

    was : IsReading market a P.0
    was = subst (FitsPhase market a) is (p.in_phase i inside)

    reads_low : (R : ℕ) → slice_index reads R ≤ slice_index s.limits R
    reads_low = set_keeps a.reads Q word (λ R x. x ≤ slice_index s.limits R) (λ R. let low = p.known i inside R in omega (arith, low.0, low.1)) (omega arith)

    reads_known : (R : ℕ) → slice_index reads R ≤ slice_index known R
    reads_known R = elim (cases_eq R Q) [
      | inl same ↦
          let k : slice_index known R ≡ word = get_or-set_at a.known Q R word 0 same (omega (arith, within, (p.sized.actors i inside).known)) in
          let r : slice_index reads R ≡ word = get_or-set_at a.reads Q R word 0 same (omega (arith, within, (p.sized.actors i inside).reads)) in
          omega (arith, k, r)
      | inr other ↦
          let k : slice_index known R ≡ slice_index a.known R = get_or-set_other a.known Q R word 0 other in
          let r : slice_index reads R ≡ slice_index a.reads R = get_or-set_other a.reads Q R word 0 other in
          omega (arith, k, r, (p.known i inside R).1)
    ]

    is_reading : IsReading market b P.0
    is_reading = record {
      within = was.within;
      asked = λ R m. elim (cases_eq R Q) [
        | inl same ↦ ap (is_asked market P.0) same ∙ asks
        | inr other ↦ was.asked R (sym (get_or-set_other a.made Q R true false other) ∙ m)
      ];
      unread = λ R m. elim (cases_eq R Q) [
        | inl same ↦ absurd (true≢false (sym (get_or-set_at a.made Q R true false same (omega (arith, within, (p.sized.actors i inside).made))) ∙ m))
        | inr other ↦ get_or-set_other a.reads Q R word 0 other ∙ was.unread R (sym (get_or-set_other a.made Q R true false other) ∙ m)
      ];
    }

    fits_next : FitsPhase market b next
    fits_next = cond_both (lacks_read market P.0 made) (Working P) (phase_found market P reads) (FitsPhase market b)
        (λ lacks. is_reading)
        (λ all. cond_both (nat_lt (effective_limit market (slice_index reads) P.0) (best_raise market (slice_index reads) P.0)) (Ready P (best_raise market (slice_index reads) P.0)) Idle (FitsPhase market b)
        (λ more. record { reading = is_reading; all = all; best = refl; above = ltb-true (effective_limit market (slice_index reads) P.0) (best_raise market (slice_index reads) P.0) more })
        (λ done. tt))

    -- the reads that were fresh still are, with the one that is made
    fresh_equal : (R : ℕ) → IsFresh market s.limits R a → (S : ℕ) → S < length market.pools → Feeds market S R → get_or made S false ≡ true → slice_index reads S ≡ slice_index s.limits S
    fresh_equal R fresh S h feed m = elim (cases_eq S Q) [
      | inl same ↦ get_or-set_at a.reads Q S word 0 same (omega (arith, within, (p.sized.actors i inside).reads)) ∙ ap (slice_index s.limits) (sym same)
      | inr other ↦ get_or-set_other a.reads Q S word 0 other ∙ fresh.equal S h feed (sym (get_or-set_other a.made Q S true false other) ∙ m)
    ]

    -- the pool in hand stays in hand, or is settled
    next_covers : (R : ℕ) → R < length market.pools → nat_eq P.0 R ≡ true → IsFresh market s.limits R a → (has_in_hand R next ≡ true) ⊎ IsSettled market (slice_index s.limits) R
    next_covers R h mine fresh = cond_both (lacks_read market P.0 made) (Working P) (phase_found market P reads) (λ ph. (has_in_hand R ph ≡ true) ⊎ IsSettled market (slice_index s.limits) R)
        (λ lacks. inl mine)
        (λ all. cond_both (nat_lt (effective_limit market (slice_index reads) P.0) (best_raise market (slice_index reads) P.0)) (Ready P (best_raise market (slice_index reads) P.0)) Idle (λ ph. (has_in_hand R ph ≡ true) ⊎ IsSettled market (slice_index s.limits) R)
        (λ more. inl mine)
        (λ done.
        let same : P.0 ≡ R = eqb-true P.0 R mine in
        let low = ltb-false (effective_limit market (slice_index reads) P.0) (best_raise market (slice_index reads) P.0) done in
        let up = at_most_by market (slice_index reads) (slice_index s.limits) reads_low P.0 was.within in
        let there : best_raise market (slice_index reads) P.0 ≤ effective_limit market (slice_index s.limits) P.0 = omega (arith, low, up) in
        inr (settled_by market ok reads s.limits R h (length-set a.reads Q word ∙ (p.sized.actors i inside).reads) p.sized.limits
        (λ S k feed. fresh_equal R fresh S k feed (all_made market P.0 made all S k (or_right (nat_eq S P.0) (feeds market S P.0) (subst (λ (T : ℕ). Feeds market S T) (sym same) feed))))
        (subst (λ (T : ℕ). best_raise market (slice_index reads) T ≤ effective_limit market (slice_index s.limits) T) same there))))

    own_cover : (R : ℕ) → R < length market.pools → IsFresh market s.limits R a → IsCovered market (moved s i b s.limits s.flags) R
    own_cover R h fresh = elim (next_covers R h (subst (λ (ph : Phase). has_in_hand R ph ≡ true) is fresh.in_hand) fresh) [
      | inl mine ↦ inr (inr (inl (some_here s.actors i b (IsFresh market s.limits R) inside record { in_hand = mine; equal = fresh_equal R fresh })))
      | inr st ↦ inr (inr (inr st))
    ]

    brings : Brings market s i b s.limits s.flags
    brings = let sizes = p.sized.actors i inside in record {
      log = refl;
      sizes = record { known = length-set a.known Q word ∙ sizes.known; reads = length-set a.reads Q word ∙ sizes.reads; made = length-set a.made Q true ∙ sizes.made; left = sizes.left; owed = sizes.owed };
      long = p.sized.limits;
      flagged = p.sized.flags;
      rise = λ R. omega arith;
      words = p.logged.limits;
      knows = knows;
      reads = set_keeps a.reads Q word (IsLogged s) (p.logged.reads i inside) (p.logged.limits Q);
      raised = cond_both (lacks_read market P.0 made) (Working P) (phase_found market P reads) (λ ph. All (λ e. e.limit ≤ slice_index s.limits e.pool.0) (done_log ph a.log))
          (λ lacks. log_done)
          (λ all. cond_both (nat_lt (effective_limit market (slice_index reads) P.0) (best_raise market (slice_index reads) P.0)) (Ready P (best_raise market (slice_index reads) P.0)) Idle
          (λ ph. All (λ e. e.limit ≤ slice_index s.limits e.pool.0) (done_log ph a.log)) (λ more. log_done) (λ done. log_done));
      known = λ R. ((known_high R).0, reads_known R);
      phase = fits_next;
      covered = λ R h. covers_on market s i inside b s.limits s.flags R (λ flag. inl flag) (λ owes. absurd (true≢false (sym (subst (λ (ph : Phase). still_owes ph a.owed R ≡ true) is owes)))) (λ S k feed. refl) (own_cover R h) (λ st. st) (p.covered R h);
      left = still_left b refl;
    } where
      log_done : All (λ e. e.limit ≤ slice_index s.limits e.pool.0) a.log
      log_done = subst (λ (ph : Phase). All (λ e. e.limit ≤ slice_index s.limits e.pool.0) (done_log ph a.log)) is (p.raised i inside)

    pub read_working : HasParts market kept (moved s i b s.limits s.flags)
    read_working = keeps market kept s i p inside b s.limits s.flags brings

-- by the phase that the actor is in
by_phase : (market : Market) → IsWellFormed market → (kept : List Raise) (s : State) (i Q : ℕ) → HasParts market kept s → i < length s.actors → (ph : Phase) → (actor_at s i).phase ≡ ph → may_read market ph (actor_at s i) Q ≡ true
    → HasParts market kept (moved s i (actor_after_read market ph (actor_at s i) Q (slice_index s.limits Q)) s.limits s.flags)
by_phase market ok kept s i Q p inside Idle is may = read_idle market kept s i Q p inside is
by_phase market ok kept s i Q p inside (Working P) is may =
    let a = actor_at s i in
    let both = and_parts (nat_lt Q (length market.pools) && is_asked market P.0 Q) (not (get_or a.made Q false)) may in
    let asks = and_parts (nat_lt Q (length market.pools)) (is_asked market P.0 Q) both.0 in
    read_working market kept s i Q p inside ok P is (ltb-true Q (length market.pools) asks.0) asks.1
by_phase market ok kept s i Q p inside (Ready P x) is may = absurd (true≢false (sym may))
by_phase market ok kept s i Q p inside (Drawn P x) is may = absurd (true≢false (sym may))
by_phase market ok kept s i Q p inside (Owing P) is may = absurd (true≢false (sym may))

pub reads_keep : (market : Market) → IsWellFormed market → (kept : List Raise) (s : State) (i : ℕ) (Q : PoolId) → HasParts market kept s → i < length s.actors → may_read market (actor_at s i).phase (actor_at s i) Q.0 ≡ true
    → HasParts market kept (after_read market s i Q)
reads_keep market ok kept s i Q p inside may = by_phase market ok kept s i Q.0 p inside (actor_at s i).phase refl may
