-- A step of one actor that leaves its log keeps the parts, where what the step brings fits.
use Rattle.std.proofs.Common.{◌≡◌, ℕ, ◌<◌, ◌≤◌, Bool, true, List, All, length, get_or, set, Some, sym, ap, ◌∙◌, subst, inl, inr, arith}
use Rattle.std.specs.Prelude.{slice_index, slice_get}
use Rattle.std.proofs.lemmas.List.Sums.{sum_by-set}
use Rattle.sl_types.specs.declared.kinds.Raise.{Raise}
use Rattle.sl_types.specs.declared.kinds.Logged.{Logged}
use Rattle.sl_types.specs.Market.{Market}
use Rattle.sl_core.specs.State.{Actor, State, actor_at, nobody}
use Rattle.sl_core.specs.Parts.{HasSizes, IsLogged, raise_of, has_raise, times, done_log, AreCovered, AreLeft, FitsPhase, HasParts}
use Rattle.sl_core.proofs.Actors.{each_set, some_set}

-- the state with another actor at i, and other words and flags
abbrev pub moved : State → ℕ → Actor → List ℕ → List Bool → State
moved s i b limits flags = record { limits = limits; flags = flags; ticket = s.ticket; actors = set s.actors i b }

pub record Brings (market : Market) (s : State) (i : ℕ) (b : Actor) (limits : List ℕ) (flags : List Bool) : Type 0 where
  pub log : b.log ≡ (actor_at s i).log
  pub sizes : HasSizes market b
  pub long : length limits ≡ length market.pools
  pub flagged : length flags ≡ length market.pools
  pub rise : (Q : ℕ) → slice_index s.limits Q ≤ slice_index limits Q
  pub words : (Q : ℕ) → IsLogged s Q (slice_index limits Q)
  pub knows : (Q : ℕ) → IsLogged s Q (slice_index b.known Q)
  pub reads : (Q : ℕ) → IsLogged s Q (slice_index b.reads Q)
  pub raised : All (λ e. e.limit ≤ slice_index limits e.pool.0) (done_log b.phase b.log)
  pub known : (Q : ℕ) → (slice_index b.known Q ≤ slice_index limits Q) × (slice_index b.reads Q ≤ slice_index b.known Q)
  pub phase : FitsPhase market b b.phase
  pub covered : AreCovered market (moved s i b limits flags)
  pub left : AreLeft market (moved s i b limits flags)

-- entries stay at most the words where these rise
pub raised_on : (ws us : List ℕ) (log : List Logged) → ((Q : ℕ) → slice_index ws Q ≤ slice_index us Q) → All (λ e. e.limit ≤ slice_index ws e.pool.0) log → All (λ e. e.limit ≤ slice_index us e.pool.0) log
raised_on ws us log rise all k d h = let up = rise (get_or log k d).pool.0 in let low = all k d h in omega (arith, up, low)

module _ (market : Market) (kept : List Raise) (s : State) (i : ℕ) (p : HasParts market kept s) (inside : i < length s.actors) where
  abbrev a : Actor
  a = actor_at s i

  pub logged_on : (b : Actor) (limits : List ℕ) (flags : List Bool) → b.log ≡ a.log → (Q x : ℕ) → IsLogged s Q x → IsLogged (moved s i b limits flags) Q x
  logged_on b limits flags same Q x (inl none) = inl none
  logged_on b limits flags same Q x (inr some) = inr (some_set s.actors i b (λ d. has_raise Q x d.log ≡ true) (λ d. has_raise Q x d.log ≡ true) inside (λ d f. f) (λ f. ap (has_raise Q x) same ∙ f) some)

  pub keeps : (b : Actor) (limits : List ℕ) (flags : List Bool) → Brings market s i b limits flags → HasParts market kept (moved s i b limits flags)
  keeps b limits flags new = record {
    raises = p.raises;
    sized = record { limits = new.long; flags = new.flagged; actors = each_set s.actors i b (HasSizes market) (HasSizes market) (λ d f. f) new.sizes p.sized.actors };
    logged = record {
      limits = λ Q. logged_on b limits flags new.log Q (slice_index limits Q) (new.words Q);
      known = each_set s.actors i b (λ d. (Q : ℕ) → IsLogged s Q (slice_index d.known Q)) (λ d. (Q : ℕ) → IsLogged (moved s i b limits flags) Q (slice_index d.known Q))
          (λ d f Q. logged_on b limits flags new.log Q (slice_index d.known Q) (f Q)) (λ Q. logged_on b limits flags new.log Q (slice_index b.known Q) (new.knows Q)) p.logged.known;
      reads = each_set s.actors i b (λ d. (Q : ℕ) → IsLogged s Q (slice_index d.reads Q)) (λ d. (Q : ℕ) → IsLogged (moved s i b limits flags) Q (slice_index d.reads Q))
          (λ d f Q. logged_on b limits flags new.log Q (slice_index d.reads Q) (f Q)) (λ Q. logged_on b limits flags new.log Q (slice_index b.reads Q) (new.reads Q)) p.logged.reads;
    };
    in_order = record {
      count = p.in_order.count;
      once = λ n. let sums = sum_by-set (times n) s.actors i b nobody inside in let same : times n b ≡ times n a = ap (λ log. times n (record b { log = log })) new.log in let was = p.in_order.once n in omega (arith, sums, same, was);
      placed = each_set s.actors i b (λ d. All (λ e. slice_get p.raises e.ticket ≡ Some (raise_of e)) d.log) (λ d. All (λ e. slice_get p.raises e.ticket ≡ Some (raise_of e)) d.log) (λ d f. f) (subst (λ log. All (λ e. slice_get p.raises e.ticket ≡ Some (raise_of e)) log) (sym new.log) (p.in_order.placed i inside)) p.in_order.placed;
    };
    sound = p.sound;
    front = p.front;
    raised = each_set s.actors i b (λ d. All (λ e. e.limit ≤ slice_index s.limits e.pool.0) (done_log d.phase d.log)) (λ d. All (λ e. e.limit ≤ slice_index limits e.pool.0) (done_log d.phase d.log))
        (λ d f. raised_on s.limits limits (done_log d.phase d.log) new.rise f) new.raised p.raised;
    known = each_set s.actors i b (λ d. (Q : ℕ) → (slice_index d.known Q ≤ slice_index s.limits Q) × (slice_index d.reads Q ≤ slice_index d.known Q)) (λ d. (Q : ℕ) → (slice_index d.known Q ≤ slice_index limits Q) × (slice_index d.reads Q ≤ slice_index d.known Q))
        (λ d f Q. let up = new.rise Q in let low = (f Q).0 in (omega (arith, up, low), (f Q).1)) new.known p.known;
    covered = new.covered;
    left = new.left;
    in_phase = each_set s.actors i b (λ d. FitsPhase market d d.phase) (λ d. FitsPhase market d d.phase) (λ d f. f) new.phase p.in_phase;
  }
