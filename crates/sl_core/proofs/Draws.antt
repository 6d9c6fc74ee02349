-- A draw keeps the parts.
use Rattle.std.proofs.Common.{◌≡◌, ◌⊎◌, ℕ, zero, suc, ◌+◌, ◌-◌, ◌<◌, ◌≤◌, true, false, true≢false, ◌&&◌, List, [], ◌∷◌, ◌++◌, All, Some, length, take, get_or, set, nat_eq, sym, refl, ap, ◌∙◌, subst, inl, inr, arith, length-append, append_assoc}
use Rattle.std.specs.Prelude.{slice_index, slice_get}
use Rattle.std.proofs.Math.Seq.{take-append_seam}
use Rattle.std.proofs.lemmas.Bool.{or_left}
use Rattle.std.proofs.lemmas.List.Elements.{All-append}
use Rattle.std.proofs.lemmas.List.Folds.{list_any-append}
use Rattle.std.proofs.lemmas.List.Sums.{sum_by-set}
use Rattle.sl_types.specs.declared.kinds.PoolId.{PoolId}
use Rattle.sl_types.specs.declared.kinds.Raise.{Raise}
use Rattle.sl_types.specs.declared.kinds.Logged.{Logged}
use Rattle.sl_types.specs.Market.{Market}
use Rattle.sl_types.specs.WellFormed.{IsWellFormed}
use Rattle.sl_laws.specs.Stable.{IsJustified}
use Rattle.sl_laws.specs.Raises.{IsVoid, IsSound, limits_after, zeros}
use Rattle.sl_laws.proofs.Best.{best_decides}
use Rattle.sl_laws.proofs.AllRules.{stays_justified}
use Rattle.sl_laws.proofs.Least.{at_most_by}
use Rattle.sl_core.specs.declared.kinds.Phase.{Phase}
use Rattle.sl_core.specs.declared.kinds.Phase.TheVariants.{Idle, Working, Ready, Drawn, Owing}
use Rattle.sl_core.specs.State.{Actor, State, actor_at, nobody}
use Rattle.sl_core.specs.Machine.{may_draw, actor_after_draw, after_draw, still_owes}
use Rattle.sl_core.specs.Parts.{HasSizes, IsLogged, raise_of, has_raise, times, done_log, has_in_hand, IsFresh, HasFound, FitsPhase, HasParts}
use Rattle.sl_core.proofs.Actors.{each_set, some_set, some_here}
use Rattle.sl_core.proofs.Covers.{covers_on}
use Rattle.sl_core.proofs.Orders.{logged_low, each_snoc, get_longer, get_last, times_snoc, one_more}

module _ (market : Market) (ok : IsWellFormed market) (kept : List Raise) (s : State) (i : ℕ) (p : HasParts market kept s) (inside : i < length s.actors)
    (P : PoolId) (x : ℕ) (is : (actor_at s i).phase ≡ Ready P x) where
  abbrev a : Actor
  a = actor_at s i

  abbrev e : Logged
  e = record { ticket = s.ticket; pool = P; limit = x }

  abbrev r : Raise
  r = record { pool = P; limit = x }

  abbrev b : Actor
  b = record a { phase = Drawn P x; log = a.log ++ e ∷ [] }

  abbrev t : State
  t = record s { ticket = s.ticket + 1; actors = set s.actors i b }

  abbrev raises : List Raise
  raises = p.raises ++ r ∷ []

  was : HasFound market a P.0 x
  was = subst (FitsPhase market a) is (p.in_phase i inside)

  -- the raise is void or justified where the list stands
  just : IsVoid market (limits_after p.raises) r ⊎ IsJustified market (limits_after p.raises) P.0 x
  just =
      let best = was.best in let above = was.above in
      let there = (best_decides market ok (slice_index a.reads) P.0 x was.reading.within (omega (arith, above))).1 (omega (arith, best)) in
      stays_justified market ok p.raises p.sound (slice_index a.reads)
      (at_most_by market (slice_index a.reads) (limits_after p.raises) (λ R. logged_low s p.raises p.in_order R (slice_index a.reads R) (p.logged.reads i inside R))) P.0 x there

  sound : IsSound market raises
  sound = each_snoc market (λ u q. IsVoid market u q ⊎ IsJustified market u q.pool.0 q.limit) zeros p.raises r p.sound was.reading.within just

  has_more : (Q y : ℕ) → has_raise Q y a.log ≡ true → has_raise Q y b.log ≡ true
  has_more Q y has = list_any-append (λ d. nat_eq d.pool.0 Q && nat_eq d.limit y) a.log (e ∷ []) ∙ or_left (has_raise Q y a.log) (has_raise Q y (e ∷ [])) has

  logged_on : (Q y : ℕ) → IsLogged s Q y → IsLogged t Q y
  logged_on Q y (inl none) = inl none
  logged_on Q y (inr some) = inr (some_set s.actors i b (λ d. has_raise Q y d.log ≡ true) (λ d. has_raise Q y d.log ≡ true) inside (λ d f. f) (has_more Q y) some)

  -- the log but for the new entry
  old_log : done_log (Drawn P x) (a.log ++ e ∷ []) ≡ a.log
  old_log =
      let count : length (a.log ++ e ∷ []) - 1 ≡ length a.log = let n = length-append a.log (e ∷ []) in omega (arith, n) in
      ap (λ (n : ℕ). take n (a.log ++ e ∷ [])) count ∙ take-append_seam a.log (e ∷ [])

  placed_on : (log : List Logged) → All (λ d. slice_get p.raises d.ticket ≡ Some (raise_of d)) log → All (λ d. slice_get raises d.ticket ≡ Some (raise_of d)) log
  placed_on log all k d h = get_longer p.raises (r ∷ []) (get_or log k d).ticket (raise_of (get_or log k d)) (all k d h)

  placed_here : All (λ d. slice_get raises d.ticket ≡ Some (raise_of d)) (e ∷ [])
  placed_here zero d h = get_last p.raises r s.ticket (sym p.in_order.count)
  placed_here (suc k) d h = absurd (omega (arith, h))

  pub kept_by_draw : HasParts market kept t
  kept_by_draw = let sizes = p.sized.actors i inside in record {
    raises = raises;
    sized = record { limits = p.sized.limits; flags = p.sized.flags; actors = each_set s.actors i b (HasSizes market) (HasSizes market) (λ d f. f) record { known = sizes.known; reads = sizes.reads; made = sizes.made; left = sizes.left; owed = sizes.owed } p.sized.actors };
    logged = record {
      limits = λ Q. logged_on Q (slice_index s.limits Q) (p.logged.limits Q);
      known = each_set s.actors i b (λ d. (Q : ℕ) → IsLogged s Q (slice_index d.known Q)) (λ d. (Q : ℕ) → IsLogged t Q (slice_index d.known Q)) (λ d f Q. logged_on Q (slice_index d.known Q) (f Q))
          (λ Q. logged_on Q (slice_index a.known Q) (p.logged.known i inside Q)) p.logged.known;
      reads = each_set s.actors i b (λ d. (Q : ℕ) → IsLogged s Q (slice_index d.reads Q)) (λ d. (Q : ℕ) → IsLogged t Q (slice_index d.reads Q)) (λ d f Q. logged_on Q (slice_index d.reads Q) (f Q))
          (λ Q. logged_on Q (slice_index a.reads Q) (p.logged.reads i inside Q)) p.logged.reads;
    };
    in_order = record {
      count = let n = length-append p.raises (r ∷ []) in omega (arith, n, p.in_order.count);
      once = λ n.
          let sums = sum_by-set (times n) s.actors i b nobody inside in
          let more = times_snoc n a.log e in
          let next = one_more n s.ticket in
          let before = p.in_order.once n in
          omega (arith, sums, more, next, before);
      placed = each_set s.actors i b (λ d. All (λ f. slice_get p.raises f.ticket ≡ Some (raise_of f)) d.log) (λ d. All (λ f. slice_get raises f.ticket ≡ Some (raise_of f)) d.log) (λ d f. placed_on d.log f)
          (All-append (λ f. slice_get raises f.ticket ≡ Some (raise_of f)) a.log (e ∷ []) (placed_on a.log (p.in_order.placed i inside)) placed_here) p.in_order.placed;
    };
    sound = sound;
    front = (p.front.0 ++ r ∷ [], ap (λ c. c ++ r ∷ []) p.front.1 ∙ append_assoc kept p.front.0 (r ∷ []));
    raised = each_set s.actors i b (λ d. All (λ f. f.limit ≤ slice_index s.limits f.pool.0) (done_log d.phase d.log)) (λ d. All (λ f. f.limit ≤ slice_index s.limits f.pool.0) (done_log d.phase d.log)) (λ d f. f)
        (subst (All (λ f. f.limit ≤ slice_index s.limits f.pool.0)) (sym old_log) (subst (λ (ph : Phase). All (λ f. f.limit ≤ slice_index s.limits f.pool.0) (done_log ph a.log)) is (p.raised i inside))) p.raised;
    known = each_set s.actors i b (λ d. (Q : ℕ) → (slice_index d.known Q ≤ slice_index s.limits Q) × (slice_index d.reads Q ≤ slice_index d.known Q)) (λ d. (Q : ℕ) → (slice_index d.known Q ≤ slice_index s.limits Q) × (slice_index d.reads Q ≤ slice_index d.known Q))
        (λ d f. f) (p.known i inside) p.known;
    covered = λ R h. covers_on market s i inside b s.limits s.flags R (λ flag. inl flag) (λ owes. absurd (true≢false (sym (subst (λ (ph : Phase). still_owes ph a.owed R ≡ true) is owes)))) (λ S k feed. refl)
        (λ fresh. inr (inr (inl (some_here s.actors i b (IsFresh market s.limits R) inside record { in_hand = subst (λ (ph : Phase). has_in_hand R ph ≡ true) is fresh.in_hand; equal = fresh.equal })))) (λ st. st) (p.covered R h);
    left = λ R h flag. some_set s.actors i b (λ d. get_or d.left R false ≡ true) (λ d. get_or d.left R false ≡ true) inside (λ d f. f) (λ f. f) (p.left R h flag);
    in_phase = each_set s.actors i b (λ d. FitsPhase market d d.phase) (λ d. FitsPhase market d d.phase) (λ d f. f)
        (record { reading = record { within = was.reading.within; asked = was.reading.asked; unread = was.reading.unread }; all = was.all; best = was.best; above = was.above }, (a.log, e, refl, refl)) p.in_phase;
  }

by_phase : (market : Market) → IsWellFormed market → (kept : List Raise) (s : State) (i x : ℕ) → HasParts market kept s → i < length s.actors → (ph : Phase) → (actor_at s i).phase ≡ ph → may_draw ph x ≡ true
    → HasParts market kept (record s { ticket = s.ticket + 1; actors = set s.actors i (actor_after_draw ph (actor_at s i) s.ticket) })
by_phase market ok kept s i x p inside Idle is may = absurd (true≢false (sym may))
by_phase market ok kept s i x p inside (Working P) is may = absurd (true≢false (sym may))
by_phase market ok kept s i x p inside (Ready P y) is may = kept_by_draw market ok kept s i p inside P y is
by_phase market ok kept s i x p inside (Drawn P y) is may = absurd (true≢false (sym may))
by_phase market ok kept s i x p inside (Owing P) is may = absurd (true≢false (sym may))

pub draws_keep : (market : Market) → IsWellFormed market → (kept : List Raise) (s : State) (i x : ℕ) → HasParts market kept s → i < length s.actors → may_draw (actor_at s i).phase x ≡ true → HasParts market kept (after_draw s i)
draws_keep market ok kept s i x p inside may = by_phase market ok kept s i x p inside (actor_at s i).phase refl may
