-- The start has the parts.
use Rattle.std.proofs.Common.{◌≡◌, ◌⊎◌, ℕ, zero, suc, ◌+◌, ◌*◌, ◌<◌, ◌≤◌, true, false, ◌&&◌, max, nat_lt, nat_le, nat_eq, List, [], ◌∷◌, All, Some, length, get_or, replicate, sum_by, sym, refl, ap, ◌∙◌, subst, inl, inr, arith}
use Rattle.std.specs.Prelude.{slice_index, slice_get}
use Rattle.std.proofs.lemmas.Bool.{cases_eq, cases_lt, or_left, or_right, and_from, and_left, and_right, eq-eqb, ne_eqb, lt-ltb, le-ltb, le-leb, lt-leb}
use Rattle.std.proofs.lemmas.List.{append-nil}
use Rattle.std.proofs.lemmas.List.Sums.{sum_by-cons}
use Rattle.std.proofs.lemmas.List.Folds.{sum_by-replicate}
use Rattle.std.proofs.lemmas.List.FromFn.{get_or-map-range_with_len, length-map-range_with_len}
use lib.ListN.{length-replicate}
use Rattle.sl_types.specs.declared.kinds.Raise.{Raise}
use Rattle.sl_types.specs.declared.kinds.Logged.{Logged}
use Rattle.sl_types.specs.Market.{Market}
use Rattle.sl_laws.specs.Limits.{Limits}
use Rattle.sl_laws.specs.Raises.{EachRaise, Replays, after_raise, after_raises, limits_after, zeros}
use Rattle.sl_laws.proofs.Least.{sound_by_replay}
use Rattle.sl_laws.proofs.Effective.{with_limit_here, with_limit_else}
use Rattle.sl_core.specs.State.{Actor, State, nobody, no_limits, all_pools, idle_actor, logged_from, words_after, start}
use Rattle.sl_core.specs.Parts.{HasSizes, IsLogged, raise_of, has_raise, times, once_if, done_log, FitsPhase, HasParts}
use Rattle.sl_core.proofs.Actors.{EachOf, zero_past, replicate_same, replicate_within}
use Rattle.sl_core.proofs.Orders.{limit_low}

-- of the first and of all others that are alike
each_start : (x y : Actor) (n : ℕ) (F : Actor → Type 0) → F x → F y → EachOf (x ∷ replicate n y) F
each_start x y n F fx fy zero h = fx
each_start x y n F fx fy (suc j) h = let k = length-replicate n y in subst F (sym (replicate_within n j y nobody (omega (arith, h, k)))) fy

-- an entry of the log stands at its ticket
pub at_from : (n : ℕ) (c : List Raise) (k : ℕ) (d : Logged) → k < length (logged_from n c) → ((get_or (logged_from n c) k d).ticket ≡ n + k) × (slice_get c k ≡ Some (raise_of (get_or (logged_from n c) k d)))
at_from n [] k d h = absurd (omega (arith, h))
at_from n (r ∷ c) zero d h = (omega arith, refl)
at_from n (r ∷ c) (suc k) d h = let rest = at_from (n + 1) c k d (omega (arith, h)) in (omega (arith, rest.0), rest.1)

-- each raise of a list that replays is of a pool
pub pool_within : (market : Market) (F : Limits → Raise → Type 0) (t : Limits) (c : List Raise) → EachRaise market F t c → (k : ℕ) (r : Raise) → slice_get c k ≡ Some r → r.pool.0 < length market.pools
pool_within market F t [] each k r at = cc
pool_within market F t (q ∷ c) each zero r at = let same : q ≡ r = cc in subst (λ (d : Raise). d.pool.0 < length market.pools) same each.0
pool_within market F t (q ∷ c) each (suc k) r at = pool_within market F (after_raise t q) c each.2 k r at

-- a ticket stands in the log once where it is in its range
times_from : (m n : ℕ) (c : List Raise) → sum_by (λ e. once_if (nat_eq e.ticket m)) (logged_from n c) ≡ once_if (nat_le n m && nat_lt m (n + length c))
times_from m n [] = elim (cases_lt m n) [
  | inl less ↦ rw (lt-leb n m less) refl
  | inr more ↦ rw (le-ltb m (n + 0) (omega (arith, more)), and_right (nat_le n m) false refl) refl
]
times_from m n (r ∷ c) =
    let head : Logged = record { ticket = n; pool = r.pool; limit = r.limit } in
    let both = sum_by-cons (λ (e : Logged). once_if (nat_eq e.ticket m)) head (logged_from (n + 1) c) in
    let rest = times_from m (n + 1) c in
    elim (cases_eq n m) [
      | inl same ↦
          let hit : once_if (nat_eq n m) ≡ 1 = ap once_if (eq-eqb n m same) in
          let miss : once_if (nat_le (n + 1) m && nat_lt m (n + 1 + length c)) ≡ 0 = ap once_if (and_left (nat_le (n + 1) m) (nat_lt m (n + 1 + length c)) (lt-leb (n + 1) m (omega (arith, same)))) in
          let all : once_if (nat_le n m && nat_lt m (n + length (r ∷ c))) ≡ 1 = ap once_if (and_from (nat_le n m) (nat_lt m (n + length (r ∷ c))) (le-leb n m (omega (arith, same))) (lt-ltb m (n + length (r ∷ c)) (omega (arith, same)))) in
          omega (arith, both, rest, hit, miss, all)
      | inr other ↦
          let hit : once_if (nat_eq n m) ≡ 0 = ap once_if (ne_eqb n m other) in
          let all : once_if (nat_le n m && nat_lt m (n + length (r ∷ c))) ≡ once_if (nat_le (n + 1) m && nat_lt m (n + 1 + length c)) = elim (cases_lt m n) [
            | inl less ↦ rw (lt-leb n m less, lt-leb (n + 1) m (omega (arith, less))) refl
            | inr more ↦ rw (le-leb n m more, le-leb (n + 1) m (omega (arith, more, other))) (ap (λ (k : ℕ). once_if (nat_lt m k)) (omega arith))
          ] in
          omega (arith, both, rest, hit, all)
    ]

-- what a list reaches is where it starts, or the limit of one of its raises
pub reached_is : (t : Limits) (c : List Raise) (n Q : ℕ) → (after_raises t c Q ≡ t Q) ⊎ (has_raise Q (after_raises t c Q) (logged_from n c) ≡ true)
reached_is t [] n Q = inl refl
reached_is t (r ∷ c) n Q = elim (reached_is (after_raise t r) c (n + 1) Q) [
  | inr there ↦ inr (or_right (nat_eq r.pool.0 Q && nat_eq r.limit (after_raises t (r ∷ c) Q)) (has_raise Q (after_raises t (r ∷ c) Q) (logged_from (n + 1) c)) there)
  | inl same ↦ elim (cases_eq Q r.pool.0) [
    | inr other ↦ inl (same ∙ with_limit_else t r.pool.0 (max (t r.pool.0) r.limit) Q (ne_eqb Q r.pool.0 other))
    | inl is ↦
        let new : after_raise t r Q ≡ max (t r.pool.0) r.limit = ap (after_raise t r) is ∙ with_limit_here t r.pool.0 (max (t r.pool.0) r.limit) in
        let old : t Q ≡ t r.pool.0 = ap t is in
        elim (cases_lt (t r.pool.0) r.limit) [
          | inl up ↦ inr (or_left (nat_eq r.pool.0 Q && nat_eq r.limit (after_raises t (r ∷ c) Q)) (has_raise Q (after_raises t (r ∷ c) Q) (logged_from (n + 1) c))
              (and_from (nat_eq r.pool.0 Q) (nat_eq r.limit (after_raises t (r ∷ c) Q)) (eq-eqb r.pool.0 Q (sym is)) (eq-eqb r.limit (after_raises t (r ∷ c) Q) (omega (arith, same, new, up)))))
          | inr down ↦ inl (omega (arith, same, new, old, down))
        ]
  ]
]

-- a word of the start
pub word_is : (market : Market) (c : List Raise) (Q : ℕ) → Q < length market.pools → slice_index (words_after market c) Q ≡ limits_after c Q
word_is market c Q h = get_or-map-range_with_len (limits_after c) 0 (length market.pools) Q Q 0 h (omega arith)

pub words_long : (market : Market) (c : List Raise) → length (words_after market c) ≡ length market.pools
words_long market c = length-map-range_with_len (limits_after c) 0 (length market.pools)

module _ (market : Market) (c : List Raise) (n : ℕ) (replays : Replays market c) where
  abbrev s : State
  s = start market c n

  abbrev words : List ℕ
  words = words_after market c

  abbrev first : Actor
  first = idle_actor market words (all_pools market) (logged_from 0 c)

  abbrev next : Actor
  next = idle_actor market words (all_pools market) []

  logged : (Q : ℕ) → IsLogged s Q (slice_index words Q)
  logged Q = elim (cases_lt Q (length market.pools)) [
    | inl h ↦ subst (IsLogged s Q) (sym (word_is market c Q h)) (elim (reached_is zeros c 0 Q) [
      | inl none ↦ inl none
      | inr has ↦ inr (0, omega arith, has)
    ])
    | inr past ↦ inl (zero_past words Q (let k = words_long market c in omega (arith, past, k)))
  ]

  nothing : (Q : ℕ) → get_or (no_limits market) Q 0 ≡ 0
  nothing Q = replicate_same (length market.pools) Q 0

  sizes : (log : List Logged) → HasSizes market (idle_actor market words (all_pools market) log)
  sizes log = record {
    known = words_long market c;
    reads = length-replicate (length market.pools) 0;
    made = length-replicate (length market.pools) false;
    left = length-replicate (length market.pools) true;
    owed = length-replicate (length market.pools) false;
  }

  once : (m : ℕ) → sum_by (times m) s.actors ≡ once_if (nat_lt m (length c))
  once m =
      let all = sum_by-cons (times m) first (replicate n next) in
      let rest = sum_by-replicate (times m) n next in
      let mine = times_from m 0 c in
      let low : nat_le 0 m ≡ true = le-leb 0 m (omega arith) in
      let here : times m first ≡ once_if (nat_lt m (length c)) = mine ∙ rw low (ap (λ (k : ℕ). once_if (nat_lt m k)) (omega arith)) in
      let none : n * times m next ≡ 0 = omega arith in
      omega (arith, all, rest, here, none)

  raised : All (λ e. e.limit ≤ slice_index words e.pool.0) (logged_from 0 c)
  raised k d h =
      let e : Logged = get_or (logged_from 0 c) k d in
      let at = (at_from 0 c k d h).1 in
      let low = limit_low c k (raise_of e) at in
      let is = word_is market c e.pool.0 (pool_within market _ zeros c replays k (raise_of e) at) in
      omega (arith, low, is)

  pub has_parts : HasParts market c s
  has_parts = record {
    raises = c;
    sized = record { limits = words_long market c; flags = length-replicate (length market.pools) true; actors = each_start first next n (HasSizes market) (sizes (logged_from 0 c)) (sizes []) };
    logged = record {
      limits = logged;
      known = each_start first next n (λ d. (Q : ℕ) → IsLogged s Q (slice_index d.known Q)) logged logged;
      reads = each_start first next n (λ d. (Q : ℕ) → IsLogged s Q (slice_index d.reads Q)) (λ Q. inl (nothing Q)) (λ Q. inl (nothing Q));
    };
    in_order = record {
      count = refl;
      once = once;
      placed = each_start first next n (λ d. All (λ e. slice_get c e.ticket ≡ Some (raise_of e)) d.log)
          (λ k d h. let at = at_from 0 c k d h in subst (λ (j : ℕ). slice_get c j ≡ Some (raise_of (get_or (logged_from 0 c) k d))) (let t = at.0 in omega (arith, t)) at.1) (λ k d h. absurd (omega (arith, h)));
    };
    sound = sound_by_replay market zeros c replays;
    front = ([], sym (append-nil c));
    raised = each_start first next n (λ d. All (λ e. e.limit ≤ slice_index words e.pool.0) (done_log d.phase d.log)) raised (λ k d h. absurd (omega (arith, h)));
    known = each_start first next n (λ d. (Q : ℕ) → (slice_index d.known Q ≤ slice_index words Q) × (slice_index d.reads Q ≤ slice_index d.known Q))
        (λ Q. let z = nothing Q in (omega arith, omega (arith, z))) (λ Q. let z = nothing Q in (omega arith, omega (arith, z)));
    covered = λ Q h. inl (replicate_within (length market.pools) Q true false h);
    left = λ Q h flag. (0, omega arith, replicate_within (length market.pools) Q true false h);
    in_phase = each_start first next n (λ d. FitsPhase market d d.phase) tt tt;
  }

pub starts_with : (market : Market) (c : List Raise) (n : ℕ) → Replays market c → HasParts market c (start market c n)
starts_with market c n replays = has_parts market c n replays
