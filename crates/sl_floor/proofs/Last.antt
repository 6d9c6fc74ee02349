-- What the end tells of the one seat that is left.
use Rattle.std.proofs.Common.{◌≡◌, ◌≢◌, ℕ, zero, suc, ◌+◌, ◌<◌, ◌≤◌, ◌&&◌, Bool, true, false, not, nat_eq, nat_lt, List, [], ◌∷◌, All, Some, length, get_or, set, replicate, sum_by, refl, sym, ap, ◌∙◌, subst, inl, inr, arith, length-set, get_or-set_other, get_or-set_same}
use Rattle.std.specs.Prelude.{slice_index, slice_get}
use Rattle.std.specs.List.{list_all}
use Rattle.std.proofs.lemmas.Bool.{cases_eq, cases_lt, cases_order, and_from, and_parts, eqb-true, not_from_false, lt-ltb, le-ltb}
use Rattle.std.proofs.lemmas.List.{get_or-map}
use Rattle.std.proofs.lemmas.List.Sums.{sum_by-set, sum_by-cons}
use Rattle.std.proofs.lemmas.Option.{slice_get_within}
use mathlib.Core.Option.{some}
use lib.ListN.{get_elem?}
use Rattle.atomic_table.specs.Table.{Final, Seen}
use Rattle.sl_types.specs.declared.kinds.Raise.{Raise}
use Rattle.sl_types.specs.declared.kinds.Logged.{Logged}
use Rattle.sl_types.specs.declared.kinds.TheConstants.{MAX_SCORE}
use Rattle.sl_types.specs.Market.{Market}
use Rattle.sl_types.proofs.Faultless.{well_formed}
use Rattle.sl_laws.specs.Limits.{effective_limit}
use Rattle.sl_laws.specs.Stable.{IsSettled, IsLeastStable}
use Rattle.sl_laws.specs.Raises.{Proves, limits_after, without_void, zeros}
use Rattle.sl_core.specs.declared.kinds.Phase.{Phase}
use Rattle.sl_core.specs.State.{Actor, State, nobody, actor_at, is_idle, logged_from, words_after}
use Rattle.sl_core.specs.Dividing.{spent_actor}
use Rattle.sl_core.specs.Machine.{has_any, is_quiet, IsQuiet}
use Rattle.sl_core.specs.Parts.{times, once_if, raise_of, done_log, IsRaised, AreInOrder}
use Rattle.sl_core.proofs.Claims.{idle_is}
use Rattle.sl_core.proofs.Filling.{same_by_each}
use Rattle.sl_core.proofs.Orders.{any_at, no_entry, logged_low}
use Rattle.sl_core.proofs.Starts.{at_from, reached_is, word_is, words_long}
use Rattle.sl_core.proofs.Quiet.{settled, quiet_proves, quiet_is_least}
use Rattle.sl_floor.specs.declared.shares.TheConstants.{WHOLE_SHARE}
use Rattle.sl_floor.specs.Floor.{Sitting, spent_view}
use Rattle.sl_floor.specs.Rule.{Table, limit_words, seated, actor_in, state_of, IsFloored}
use Rattle.sl_floor.specs.Ending.{Closing, IsOrdered, IsWholeLog, AreSettled, ReachesLeast, IsProved}
use Rattle.sl_floor.proofs.Words.{limit_at, limits_long, sum_set}
use Rattle.sl_floor.proofs.Keeps.{found_at}
use Rattle.sl_floor.proofs.Ends.{here, inside, map_length}

sum_zero : {A : Type 0} (f : A → ℕ) (xs : List A) (k : ℕ) (d : A) → sum_by f xs ≡ 0 → k < length xs → f (get_or xs k d) ≡ 0
sum_zero f [] k d none' h = absurd (omega (arith, h))
sum_zero f (x ∷ xs) zero d none' h = let sums = sum_by-cons f x xs in omega (arith, sums, none')
sum_zero f (x ∷ xs) (suc k) d none' h = let sums = sum_by-cons f x xs in sum_zero f xs k d (omega (arith, sums, none')) (omega (arith, h))

zero_sum : {A : Type 0} (f : A → ℕ) (xs : List A) (d : A) → ((k : ℕ) → k < length xs → f (get_or xs k d) ≡ 0) → sum_by f xs ≡ 0
zero_sum f [] d each = refl
zero_sum f (x ∷ xs) d each = let sums = sum_by-cons f x xs in let here' = each 0 (omega arith) in let rest = zero_sum f xs d (λ k h. each (suc k) (omega (arith, h))) in omega (arith, sums, here', rest)

all_from : {A : Type 0} (f : A → Bool) (xs : List A) (d : A) → ((k : ℕ) → k < length xs → f (get_or xs k d) ≡ true) → list_all f xs ≡ true
all_from f [] d each = refl
all_from f (x ∷ xs) d each = and_from (f x) (list_all f xs) (each 0 (omega arith)) (all_from f xs d (λ k h. each (suc k) (omega (arith, h))))

pub none_up : (n : ℕ) → has_any (replicate n false) ≡ false
none_up zero = refl
none_up (suc n) = none_up n

seated_none : (market : Market) (share : ℕ) (a : Actor) → share ≡ 0 → seated market share a ≡ spent_actor market
seated_none market zero a is = refl
seated_none market (suc share) a is = absurd (omega (arith, is))

-- two bounds below which the same numbers lie
same_bound : (a b : ℕ) → ((n : ℕ) → once_if (nat_lt n a) ≡ once_if (nat_lt n b)) → a ≡ b
same_bound a b same = elim (cases_order a b) [
  | inl is ↦ is
  | inr other ↦ elim other [
    | inl less ↦
        let one : once_if (nat_lt a b) ≡ 1 = ap once_if (lt-ltb a b less) in let none' : once_if (nat_lt a a) ≡ 0 = ap once_if (le-ltb a a (omega arith)) in
        let all = same a in absurd (omega (arith, one, none', all))
    | inr more ↦
        let one : once_if (nat_lt b a) ≡ 1 = ap once_if (lt-ltb b a more) in let none' : once_if (nat_lt b b) ≡ 0 = ap once_if (le-ltb b b (omega arith)) in
        let all = same b in absurd (omega (arith, one, none', all))
  ]
]

once_is : (b : Bool) → 1 ≤ once_if b → b ≡ true
once_is true h = refl
once_is false h = absurd (omega (arith, h))

-- where a sum isn't 0, one of its terms isn't
some_counted : {A : Type 0} (f : A → ℕ) (xs : List A) (d : A) → 1 ≤ sum_by f xs → (k : ℕ) × (k < length xs) × (1 ≤ f (get_or xs k d))
some_counted f [] d some' = absurd (omega (arith, some'))
some_counted f (x ∷ xs) d some' =
    let sums = sum_by-cons f x xs in
    elim (cases_lt 0 (f x)) [
      | inl first ↦ (0, omega arith, omega (arith, first))
      | inr none' ↦ let rest = some_counted f xs d (omega (arith, sums, some', none')) in (suc rest.0, (let h = rest.1 in omega (arith, h)), rest.2)
    ]

-- each ticket stands in a log that is in order
entry_of : (log : List Logged) (c : List Raise) → IsOrdered log c → (n : ℕ) → n < length c → (k : ℕ) × (k < length log) × ((get_or log k no_entry).ticket ≡ n)
entry_of log c o n h =
    let once = o.once n in
    let one : once_if (nat_lt n (length c)) ≡ 1 = ap once_if (lt-ltb n (length c) h) in
    let at' = some_counted (λ (e : Logged). once_if (nat_eq e.ticket n)) log no_entry (omega (arith, once, one)) in
    let e : Logged = get_or log at'.0 no_entry in
    (at'.0, at'.1, eqb-true e.ticket n (once_is (nat_eq e.ticket n) at'.2))

module _ (market : Market) (kept : List Raise) (id : ℕ) (v : Sitting) (same : v.market ≡ market) (whole : v.share ≡ WHOLE_SHARE) (idle : is_idle v.actor.phase ≡ true) (s : Table) (r : IsFloored market kept s) (at : get_elem? s.views id ≡ some v) where
  some_share : 0 < v.share
  some_share = omega (arith, whole)

  abbrev last : State
  last = state_of market s.words s.views

  me_last : actor_at last id ≡ v.actor
  me_last = here market kept id v same some_share s r at

  in_last : id < length last.actors
  in_last = inside market kept id v same some_share s r at

  -- every other seat is spent
  others : (k : ℕ) → k ≢ id → k < length last.actors → actor_at last k ≡ spent_actor market
  others k other h =
      let count : length last.actors ≡ length s.views = map_length (actor_in market) s.views in
      let within : k < length s.views = omega (arith, h, count) in
      let sums = sum_set (λ u. u.share) s.views id v spent_view at in
      let all = r.shares in
      let none' : sum_by (λ u. u.share) (set s.views id spent_view) ≡ 0 = omega (arith, sums, all, whole) in
      let zero_share = sum_zero (λ (u : Sitting). u.share) (set s.views id spent_view) k v none' (let n = length-set s.views id spent_view in omega (arith, n, within)) in
      let there : get_or (set s.views id spent_view) k v ≡ get_or s.views k v = get_or-set_other s.views id k spent_view v other in
      get_or-map (actor_in market) s.views k v nobody within ∙ seated_none market (get_or s.views k v).share (get_or s.views k v).actor (sym (ap (λ (u : Sitting). u.share) there) ∙ zero_share)

  alone : (n : ℕ) → sum_by (times n) last.actors ≡ times n v.actor
  alone n =
      let sums = sum_by-set (times n) last.actors id (spent_actor market) nobody in_last in
      let mine : times n (actor_at last id) ≡ times n v.actor = ap (times n) me_last in
      let rest : sum_by (times n) (set last.actors id (spent_actor market)) ≡ 0 = zero_sum (times n) (set last.actors id (spent_actor market)) nobody (λ k h. elim (cases_eq k id) [
        | inl is ↦ ap (times n) (ap (λ (j : ℕ). get_or (set last.actors id (spent_actor market)) j nobody) is ∙ get_or-set_same last.actors id (spent_actor market) nobody in_last)
        | inr other ↦ ap (times n) (get_or-set_other last.actors id k (spent_actor market) nobody other ∙ others k other (let m = length-set last.actors id (spent_actor market) in omega (arith, m, h)))
      ]) in
      omega (arith, sums, mine, rest)

  -- the seat's log has the list of the parts
  ordered : IsOrdered v.actor.log r.parts.raises
  ordered = record {
    once = λ n. sym (alone n) ∙ (r.parts.in_order.once n ∙ ap (λ (m : ℕ). once_if (nat_lt n m)) (sym r.parts.in_order.count));
    placed = subst (λ (a : Actor). All (λ e. slice_get r.parts.raises e.ticket ≡ Some (raise_of e)) a.log) me_last (r.parts.in_order.placed id in_last);
  }

  -- every entry of it is at most its pool's word
  raised_last : IsRaised last.limits v.actor.log
  raised_last =
      let done = subst (λ (a : Actor). IsRaised last.limits (done_log a.phase a.log)) me_last (r.parts.raised id in_last) in
      subst (λ (ph : Phase). IsRaised last.limits (done_log ph v.actor.log)) (idle_is v.actor.phase idle) done

  -- and the words are what the list reaches
  high_last : (Q : ℕ) → limits_after r.parts.raises Q ≤ slice_index last.limits Q
  high_last Q = elim (reached_is zeros r.parts.raises 0 Q) [
    | inl none' ↦ omega (arith, none')
    | inr has ↦
        let log = logged_from 0 r.parts.raises in
        let x : ℕ = limits_after r.parts.raises Q in
        let found = any_at (λ e. nat_eq e.pool.0 Q && nat_eq e.limit x) log no_entry has in
        let e : Logged = get_or log found.0 no_entry in
        let both = and_parts (nat_eq e.pool.0 Q) (nat_eq e.limit x) found.2 in
        let pool : e.pool.0 ≡ Q = eqb-true e.pool.0 Q both.0 in
        let limit : e.limit ≡ x = eqb-true e.limit x both.1 in
        let listed = (at_from 0 r.parts.raises found.0 no_entry found.1).1 in
        let within = slice_get_within r.parts.raises found.0 (raise_of e) listed in
        let at' = entry_of v.actor.log r.parts.raises ordered found.0 within in
        let d : Logged = get_or v.actor.log at'.0 no_entry in
        let placed : slice_get r.parts.raises found.0 ≡ Some (raise_of d) = subst (λ (m : ℕ). slice_get r.parts.raises m ≡ Some (raise_of d)) at'.2 (ordered.placed at'.0 no_entry at'.1) in
        let same' : raise_of d ≡ raise_of e = cc in
        let low : (raise_of d).limit ≤ slice_index last.limits (raise_of d).pool.0 = raised_last at'.0 no_entry at'.1 in
        let there : e.limit ≤ slice_index last.limits e.pool.0 = subst (λ (q : Raise). q.limit ≤ slice_index last.limits q.pool.0) same' low in
        let here' : e.limit ≤ slice_index last.limits Q = subst (λ (R : ℕ). e.limit ≤ slice_index last.limits R) pool there in
        omega (arith, here', limit)
  ]

  words_are : last.limits ≡ words_after market r.parts.raises
  words_are = same_by_each last.limits (words_after market r.parts.raises) 0 (limits_long market s.words r.wide ∙ sym (words_long market r.parts.raises)) (λ k h.
      let n = limits_long market s.words r.wide in
      let high = high_last k in let low = logged_low last r.parts.raises r.parts.in_order k (slice_index last.limits k) (r.parts.logged.limits k) in
      let is = word_is market r.parts.raises k (omega (arith, h, n)) in
      omega (arith, high, low, is))

  pub whole_log : IsWholeLog (record { market = market; kept = kept; words = last.limits; log = v.actor.log })
  whole_log = record { raises = r.parts.raises; ordered = ordered; sound = r.parts.sound; front = r.parts.front; reached = words_are }

  in_order : (c : List Raise) → IsOrdered v.actor.log c → AreInOrder last c
  in_order c o = record {
    count = same_bound (length c) last.ticket (λ n. sym (o.once n) ∙ (sym (alone n) ∙ r.parts.in_order.once n));
    once = r.parts.in_order.once;
    placed = λ k h. elim (cases_eq k id) [
      | inl is ↦ subst (λ (a : Actor). All (λ e. slice_get c e.ticket ≡ Some (raise_of e)) a.log) (sym (ap (actor_at last) is ∙ me_last)) o.placed
      | inr other ↦ subst (λ (a : Actor). All (λ e. slice_get c e.ticket ≡ Some (raise_of e)) a.log) (sym (others k other h)) (λ j d e. absurd (omega (arith, e)))
    ];
  }

  module _ (left : has_any v.actor.left ≡ false) where
    quiet : IsQuiet last
    quiet = all_from is_quiet last.actors nobody (λ k h. elim (cases_eq k id) [
      | inl is ↦ subst (λ (a : Actor). is_quiet a ≡ true) (sym (ap (actor_at last) is ∙ me_last)) (and_from (is_idle v.actor.phase) (not (has_any v.actor.left)) idle (not_from_false (has_any v.actor.left) left))
      | inr other ↦ subst (λ (a : Actor). is_quiet a ≡ true) (sym (others k other h)) (not_from_false (has_any (replicate (length market.pools) false)) (none_up (length market.pools)))
    ])

    pub last_settled : (Q : ℕ) → Q < length market.pools → IsSettled market (slice_index last.limits) Q
    last_settled = settled market (well_formed market r.valid) kept last r.parts quiet

    pub last_least : IsLeastStable market (effective_limit market (slice_index last.limits))
    last_least = quiet_is_least market (well_formed market r.valid) kept last r.parts quiet

    pub last_proves : (c : List Raise) → IsOrdered v.actor.log c → Proves market (without_void market c) (effective_limit market (slice_index last.limits))
    last_proves c o = quiet_proves market (well_formed market r.valid) kept last r.parts quiet c (in_order c o)

-- what a closed floor tells, with the limits that were written
abbrev pub end_of : Market → List Raise → Sitting → List ℕ → Closing
end_of market kept v out = record { market = market; kept = kept; words = out; log = v.actor.log }

pub record Closes (left : List Bool) (end : Closing) : Type 0 where
  pub whole : IsWholeLog end
  pub settled : has_any left ≡ false → AreSettled end
  pub least : has_any left ≡ false → ReachesLeast end
  pub proves : has_any left ≡ false → IsProved end

module _ (market : Market) (kept : List Raise) (id : ℕ) (v : Sitting) (same : v.market ≡ market) (whole : v.share ≡ WHOLE_SHARE) (idle : is_idle v.actor.phase ≡ true) (ws : List ℕ) (xs : List (Unit {0})) (f : Final (Seen (IsFloored market kept) id v) ws xs) where
  pub final_low : (k : ℕ) → k < length market.pools → slice_index ws (k + 1) ≤ MAX_SCORE + 1
  final_low k h =
      let found = found_at market kept id v (omega (arith, whole)) same f.0 f.1.0 f.1.1 k h in
      let words : slice_index f.0.words (k + 1) ≡ slice_index ws (k + 1) = ap (λ l. slice_index l (k + 1)) f.2 in
      let top = found.top in omega (arith, top, words)

  pub closing : (out : List ℕ) → length out ≡ length market.pools → ((k : ℕ) → k < length out → slice_index out k ≡ slice_index ws (k + 1)) → Closes v.actor.left (end_of market kept v out)
  closing out long each =
      let s = f.0 in let r = f.1.0 in let at = f.1.1 in
      let wide = r.wide in
      let is : limit_words market s.words ≡ out = same_by_each (limit_words market s.words) out 0 (limits_long market s.words wide ∙ sym long) (λ k h.
      let n = limits_long market s.words wide in
      limit_at market s.words wide k (omega (arith, h, n)) ∙ (ap (λ l. slice_index l (k + 1)) f.2 ∙ sym (each k (omega (arith, h, n, long))))) in
      record {
        whole = subst (λ l. IsWholeLog (end_of market kept v l)) is (whole_log market kept id v same whole idle s r at);
        settled = λ left. subst (λ l. AreSettled (end_of market kept v l)) is (last_settled market kept id v same whole idle s r at left);
        least = λ left. subst (λ l. ReachesLeast (end_of market kept v l)) is (last_least market kept id v same whole idle s r at left);
        proves = λ left. subst (λ l. IsProved (end_of market kept v l)) is (last_proves market kept id v same whole idle s r at left);
      }
