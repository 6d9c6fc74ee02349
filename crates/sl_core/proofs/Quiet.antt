-- What holds where every actor is idle and none has a pool left to scan, and what holds of every state.
use Rattle.std.proofs.Common.{◌≡◌, ℕ, zero, suc, ◌<◌, ◌≤◌, Bool, true, false, true≢false, not, ◌&&◌, nat_lt, nat_eq, List, [], ◌∷◌, All, Some, length, get_or, sum_by, sym, refl, ap, ◌∙◌, subst, inl, inr, arith}
use Rattle.std.specs.Prelude.{slice_index, slice_get}
use Rattle.std.specs.List.{list_all}
use Rattle.std.proofs.lemmas.Bool.{and_parts, cases_lt, eqb-true, lt-ltb, not-true}
use Rattle.std.proofs.lemmas.Option.{slice_get_within}
use Rattle.std.proofs.lemmas.List.Folds.{list_any_at}
use Rattle.std.proofs.lemmas.List.Sums.{sum_by-cons}
use Rattle.sl_types.specs.declared.kinds.Raise.{Raise}
use Rattle.sl_types.specs.declared.kinds.Logged.{Logged}
use Rattle.sl_types.specs.Market.{Market}
use Rattle.sl_types.specs.WellFormed.{IsWellFormed}
use Rattle.sl_laws.specs.Limits.{Limits, effective_limit}
use Rattle.sl_laws.specs.Stable.{IsSettled, IsStable, IsLeastStable}
use Rattle.sl_laws.specs.Raises.{Proves, limits_after, without_void, zeros}
use Rattle.sl_laws.proofs.AllRules.{drops_void, sound_passes_none, proves_the_least}
use Rattle.sl_laws.proofs.Alike.{settled_alike}
use Rattle.sl_laws.proofs.Slices.{same_limits}
use Rattle.sl_core.specs.declared.kinds.Phase.{Phase}
use Rattle.sl_core.specs.declared.kinds.Phase.TheVariants.{Idle}
use Rattle.sl_core.specs.State.{State, actor_at, nobody, is_idle, logged_from}
use Rattle.sl_core.specs.Machine.{has_any, still_owes, is_quiet, IsQuiet}
use Rattle.sl_core.specs.Parts.{raise_of, times, once_if, AreInOrder, done_log, has_in_hand, IsCovered, IsLogged, HasParts}
use Rattle.sl_core.proofs.Actors.{up_within}
use Rattle.sl_core.proofs.Claims.{idle_is}
use Rattle.sl_core.proofs.Orders.{logged_low, any_at, no_entry}
use Rattle.sl_core.proofs.Starts.{at_from, reached_is}

all_at : {A : Type 0} (f : A → Bool) (xs : List A) (k : ℕ) (d : A) → list_all f xs ≡ true → k < length xs → f (get_or xs k d) ≡ true
all_at f [] k d all h = absurd (omega (arith, h))
all_at f (x ∷ xs) zero d all h = (and_parts (f x) (list_all f xs) all).0
all_at f (x ∷ xs) (suc k) d all h = all_at f xs k d (and_parts (f x) (list_all f xs) all).1 (omega (arith, h))

-- where a sum isn't 0, one of its terms isn't
some_counted : {A : Type 0} (f : A → ℕ) (xs : List A) (d : A) → 1 ≤ sum_by f xs → (k : ℕ) × (k < length xs) × (1 ≤ f (get_or xs k d))
some_counted f [] d some = absurd (omega (arith, some))
some_counted f (x ∷ xs) d some =
    let sums = sum_by-cons f x xs in
    elim (cases_lt 0 (f x)) [
      | inl here ↦ (0, omega arith, omega (arith, here))
      | inr none ↦ let rest = some_counted f xs d (omega (arith, sums, some, none)) in (suc rest.0, (let h = rest.1 in omega (arith, h)), rest.2)
    ]

once_is : (b : Bool) → 1 ≤ once_if b → b ≡ true
once_is true h = refl
once_is false h = absurd (omega (arith, h))

-- each ticket stands in some log
entry_of : (s : State) (c : List Raise) → AreInOrder s c → (n : ℕ) → n < s.ticket → (j : ℕ) × (j < length s.actors) × (k : ℕ) × (k < length (actor_at s j).log) × ((get_or (actor_at s j).log k no_entry).ticket ≡ n)
entry_of s c order n h =
    let once = order.once n in
    let one : once_if (nat_lt n s.ticket) ≡ 1 = ap once_if (lt-ltb n s.ticket h) in
    let at = some_counted (times n) s.actors nobody (omega (arith, once, one)) in
    let a = actor_at s at.0 in
    let in_log = some_counted (λ (e : Logged). once_if (nat_eq e.ticket n)) a.log no_entry at.2 in
    let e : Logged = get_or a.log in_log.0 no_entry in
    (at.0, at.1, in_log.0, in_log.1, eqb-true e.ticket n (once_is (nat_eq e.ticket n) in_log.2))

same_list : {A : Type 0} (xs ys : List A) → length xs ≡ length ys → ((n : ℕ) → n < length xs → slice_get xs n ≡ slice_get ys n) → xs ≡ ys
same_list [] [] len same = refl
same_list [] (y ∷ ys) len same = absurd (omega (arith, len))
same_list (x ∷ xs) [] len same = absurd (omega (arith, len))
same_list (x ∷ xs) (y ∷ ys) len same =
    let head : Some x ≡ Some y = same 0 (omega arith) in
    let is : x ≡ y = cc in
    let rest : xs ≡ ys = same_list xs ys (omega (arith, len)) (λ n h. same (suc n) (omega (arith, h))) in cc

-- only one list has the entries in order of ticket
pub order_is_one : (s : State) (c d : List Raise) → AreInOrder s c → AreInOrder s d → c ≡ d
order_is_one s c d one other = same_list c d (one.count ∙ sym other.count) (λ n h.
    let at = entry_of s c one n (let k = one.count in omega (arith, h, k)) in
    let left = one.placed at.0 at.1 at.2 no_entry at.3 in
    let right = other.placed at.0 at.1 at.2 no_entry at.3 in
    subst (λ (m : ℕ). slice_get c m ≡ slice_get d m) at.4 (left ∙ sym right))

-- No word, no known number and no read passes a stable limit.
pub logged_passes_none : (market : Market) → IsWellFormed market → (kept : List Raise) (s : State) → HasParts market kept s → (l : Limits) → IsStable market l → (Q x : ℕ) → IsLogged s Q x → x ≤ l Q
logged_passes_none market ok kept s p l stable Q x logged =
    let low = logged_low s p.raises p.in_order Q x logged in
    let high = sound_passes_none market ok p.raises p.sound l stable Q in
    omega (arith, low, high)

module _ (market : Market) (ok : IsWellFormed market) (kept : List Raise) (s : State) (p : HasParts market kept s) (quiet : IsQuiet s) where
  at_rest : (j : ℕ) → j < length s.actors → ((actor_at s j).phase ≡ Idle) × (has_any (actor_at s j).left ≡ false)
  at_rest j h =
      let both = and_parts (is_idle (actor_at s j).phase) (not (has_any (actor_at s j).left)) (all_at is_quiet s.actors j nobody quiet h) in
      (idle_is (actor_at s j).phase both.0, not-true (has_any (actor_at s j).left) both.1)

  settled_by_cover : (Q : ℕ) → Q < length market.pools → IsCovered market s Q → IsSettled market (slice_index s.limits) Q
  settled_by_cover Q h (inl flag) =
      let left = p.left Q h flag in
      let flags = (actor_at s left.0).left in
      absurd (true≢false (sym (list_any_at (λ f. f) flags Q false (up_within flags Q left.2) left.2) ∙ (at_rest left.0 left.1).1))
  settled_by_cover Q h (inr (inl (j, k, owes))) = absurd (true≢false (sym (subst (λ (ph : Phase). still_owes ph (actor_at s j).owed Q ≡ true) (at_rest j k).0 owes)))
  settled_by_cover Q h (inr (inr (inl (j, k, fresh)))) = absurd (true≢false (sym (subst (λ (ph : Phase). has_in_hand Q ph ≡ true) (at_rest j k).0 fresh.in_hand)))
  settled_by_cover Q h (inr (inr (inr st))) = st

  pub settled : (Q : ℕ) → Q < length market.pools → IsSettled market (slice_index s.limits) Q
  settled Q h = settled_by_cover Q h (p.covered Q h)

  -- the words are what the list reaches
  high : (Q : ℕ) → limits_after p.raises Q ≤ slice_index s.limits Q
  high Q = elim (reached_is zeros p.raises 0 Q) [
    | inl none ↦ omega (arith, none)
    | inr has ↦
        let log = logged_from 0 p.raises in
        let x : ℕ = limits_after p.raises Q in
        let found = any_at (λ e. nat_eq e.pool.0 Q && nat_eq e.limit x) log no_entry has in
        let e : Logged = get_or log found.0 no_entry in
        let both = and_parts (nat_eq e.pool.0 Q) (nat_eq e.limit x) found.2 in
        let pool : e.pool.0 ≡ Q = eqb-true e.pool.0 Q both.0 in
        let limit : e.limit ≡ x = eqb-true e.limit x both.1 in
        let listed = (at_from 0 p.raises found.0 no_entry found.1).1 in
        let within = slice_get_within p.raises found.0 (raise_of e) listed in
        let at = entry_of s p.raises p.in_order found.0 (let k = p.in_order.count in omega (arith, within, k)) in
        let d : Logged = get_or (actor_at s at.0).log at.2 no_entry in
        let placed : slice_get p.raises found.0 ≡ Some (raise_of d) = subst (λ (m : ℕ). slice_get p.raises m ≡ Some (raise_of d)) at.4 (p.in_order.placed at.0 at.1 at.2 no_entry at.3) in
        let same : raise_of d ≡ raise_of e = cc in
        let done : All (λ f. f.limit ≤ slice_index s.limits f.pool.0) (actor_at s at.0).log = subst (λ (ph : Phase). All (λ f. f.limit ≤ slice_index s.limits f.pool.0) (done_log ph (actor_at s at.0).log)) (at_rest at.0 at.1).0 (p.raised at.0 at.1) in
        let low : (raise_of d).limit ≤ slice_index s.limits (raise_of d).pool.0 = done at.2 no_entry at.3 in
        let there : e.limit ≤ slice_index s.limits e.pool.0 = subst (λ (r : Raise). r.limit ≤ slice_index s.limits r.pool.0) same low in
        let here : e.limit ≤ slice_index s.limits Q = subst (λ (R : ℕ). e.limit ≤ slice_index s.limits R) pool there in
        omega (arith, here, limit)
  ]

  words_are : limits_after p.raises ≡ slice_index s.limits
  words_are = same_limits (limits_after p.raises) (slice_index s.limits) (λ Q. let a = high Q in let b = logged_low s p.raises p.in_order Q (slice_index s.limits Q) (p.logged.limits Q) in omega (arith, a, b))

  own_proves : Proves market (without_void market p.raises) (effective_limit market (slice_index s.limits))
  own_proves =
      let dropped = drops_void market ok p.raises p.sound in
      let same : (Q : ℕ) → Q < length market.pools → effective_limit market (limits_after (without_void market p.raises)) Q ≡ effective_limit market (slice_index s.limits) Q =
      λ Q h. dropped.1 Q h ∙ ap (λ (t : Limits). effective_limit market t Q) words_are in
      (dropped.0, λ Q h. (settled_alike market ok (slice_index s.limits) (limits_after (without_void market p.raises)) (λ R k. sym (same R k)) Q h (settled Q h), same Q h))

  pub quiet_proves : (c : List Raise) → AreInOrder s c → Proves market (without_void market c) (effective_limit market (slice_index s.limits))
  quiet_proves c order = subst (λ (d : List Raise). Proves market (without_void market d) (effective_limit market (slice_index s.limits))) (order_is_one s p.raises c p.in_order order) own_proves

  pub quiet_is_least : IsLeastStable market (effective_limit market (slice_index s.limits))
  quiet_is_least = proves_the_least market ok (without_void market p.raises) (effective_limit market (slice_index s.limits)) own_proves
