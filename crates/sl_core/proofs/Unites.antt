-- Two actors that become one keep the parts.
use Rattle.std.proofs.Common.{◌≡◌, ◌≢◌, ℕ, zero, suc, ◌<◌, ◌≤◌, Bool, true, false, true≢false, ◌||◌, ◌&&◌, max, nat_eq, List, [], ◌∷◌, ◌++◌, All, Some, length, get_or, set, sum_by, sym, refl, ap, ◌∙◌, subst, inl, inr, arith, length-set, get_or-set_other, get_or-set_same}
use Rattle.std.specs.Prelude.{slice_index, slice_get}
use Rattle.std.proofs.lemmas.Bool.{cases_eq, cases_lt, or_left, or_right}
use Rattle.std.proofs.lemmas.List.Elements.{All-append}
use Rattle.std.proofs.lemmas.List.Folds.{list_any-append}
use Rattle.std.proofs.lemmas.List.Sums.{sum_by-set, sum_by-append}
use lib.ListN.{length-replicate}
use Rattle.sl_types.specs.declared.kinds.Raise.{Raise}
use Rattle.sl_types.specs.declared.kinds.Logged.{Logged}
use Rattle.sl_types.specs.Market.{Market}
use Rattle.sl_core.specs.declared.kinds.Phase.{Phase}
use Rattle.sl_core.specs.declared.kinds.Phase.TheVariants.{Idle}
use Rattle.sl_core.specs.State.{Actor, State, actor_at, nobody, no_limits, is_idle}
use Rattle.sl_core.specs.Machine.{still_owes}
use Rattle.sl_core.specs.Dividing.{greater_of, either_of, actor_of_both, spent_actor, after_unite}
use Rattle.sl_core.specs.Parts.{HasSizes, IsLogged, raise_of, has_raise, times, once_if, done_log, has_in_hand, IsFresh, IsCovered, FitsPhase, HasParts}
use Rattle.sl_core.proofs.Actors.{EachOf, SomeOf, each_set, some_else, replicate_same, up_within}
use Rattle.sl_core.proofs.Claims.{idle_is}

greater_length : (xs ys : List ℕ) → length (greater_of xs ys) ≡ length xs
greater_length [] ys = refl
greater_length (x ∷ xs) [] = refl
greater_length (x ∷ xs) (y ∷ ys) = let rest = greater_length xs ys in omega (arith, rest)

either_length : (xs ys : List Bool) → length (either_of xs ys) ≡ length xs
either_length [] ys = refl
either_length (x ∷ xs) [] = refl
either_length (x ∷ xs) (y ∷ ys) = let rest = either_length xs ys in omega (arith, rest)

-- what holds of both numbers of a place holds of the greater, which is at least the first
greater_at : (xs ys : List ℕ) (F : ℕ → ℕ → Type 0) → ((k : ℕ) → F k (get_or xs k 0)) → ((k : ℕ) → F k (get_or ys k 0)) → (k : ℕ) → F k (get_or (greater_of xs ys) k 0)
greater_at [] ys F fx fy k = fx k
greater_at (x ∷ xs) [] F fx fy k = fx k
greater_at (x ∷ xs) (y ∷ ys) F fx fy zero = elim (cases_lt x y) [
  | inl less ↦ let is : max x y ≡ y = omega (arith, less) in subst (F 0) (sym is) (fy 0)
  | inr more ↦ let is : max x y ≡ x = omega (arith, more) in subst (F 0) (sym is) (fx 0)
]
greater_at (x ∷ xs) (y ∷ ys) F fx fy (suc k) = greater_at xs ys (λ j. F (suc j)) (λ j. fx (suc j)) (λ j. fy (suc j)) k

greater_high : (xs ys : List ℕ) (k : ℕ) → get_or xs k 0 ≤ get_or (greater_of xs ys) k 0
greater_high [] ys k = omega arith
greater_high (x ∷ xs) [] k = omega arith
greater_high (x ∷ xs) (y ∷ ys) zero = omega arith
greater_high (x ∷ xs) (y ∷ ys) (suc k) = greater_high xs ys k

either_left : (xs ys : List Bool) (k : ℕ) → get_or xs k false ≡ true → get_or (either_of xs ys) k false ≡ true
either_left [] ys k up = up
either_left (x ∷ xs) [] k up = up
either_left (x ∷ xs) (y ∷ ys) zero up = or_left x y up
either_left (x ∷ xs) (y ∷ ys) (suc k) up = either_left xs ys k up

either_right : (xs ys : List Bool) (k : ℕ) → length ys ≤ length xs → get_or ys k false ≡ true → get_or (either_of xs ys) k false ≡ true
either_right [] ys k long up = let h = up_within ys k up in absurd (omega (arith, h, long))
either_right (x ∷ xs) [] k long up = absurd (true≢false (sym up))
either_right (x ∷ xs) (y ∷ ys) zero long up = or_right x y up
either_right (x ∷ xs) (y ∷ ys) (suc k) long up = either_right xs ys k (omega (arith, long)) up

module _ (market : Market) (kept : List Raise) (s : State) (i j : ℕ) (p : HasParts market kept s) (inside : i < length s.actors) (there : j < length s.actors) (two : i ≢ j)
    (idle : (actor_at s i).phase ≡ Idle) (other_idle : (actor_at s j).phase ≡ Idle) where
  abbrev a : Actor
  a = actor_at s i

  abbrev b : Actor
  b = actor_at s j

  abbrev u : Actor
  u = actor_of_both a b

  abbrev none : Actor
  none = spent_actor market

  abbrev first : List Actor
  first = set s.actors i u

  abbrev t : State
  t = after_unite market s i j

  each_two : (F G : Actor → Type 0) → ((d : Actor) → F d → G d) → G u → G none → EachOf s.actors F → EachOf t.actors G
  each_two F G keep mine gone each = each_set first j none G G (λ d g. g) gone (each_set s.actors i u F G keep mine each)

  some_united : (G : Actor → Type 0) → G u → SomeOf t.actors G
  some_united G mine = let h : j < length first = let n = length-set s.actors i u in omega (arith, n, there) in
      some_else first j i none G two (let n = length-set s.actors i u in omega (arith, n, inside)) (subst G (sym (get_or-set_same s.actors i u nobody inside)) mine)

  -- someone of whom F holds: the first, the second or another
  some_two : (F G : Actor → Type 0) → ((d : Actor) → F d → G d) → (F a → G u) → (F b → G u) → SomeOf s.actors F → SomeOf t.actors G
  some_two F G keep one other (k, h, f) = elim (cases_eq k i) [
    | inl same ↦ some_united G (one (subst (λ (l : ℕ). F (actor_at s l)) same f))
    | inr not_i ↦ elim (cases_eq k j) [
      | inl same ↦ some_united G (other (subst (λ (l : ℕ). F (actor_at s l)) same f))
      | inr not_j ↦ some_else first j k none G not_j (let n = length-set s.actors i u in omega (arith, n, h)) (subst G (sym (get_or-set_other s.actors i k u nobody not_i)) (keep (actor_at s k) f))
    ]
  ]

  logged_on : (Q x : ℕ) → IsLogged s Q x → IsLogged t Q x
  logged_on Q x (inl zero_is) = inl zero_is
  logged_on Q x (inr some) = inr (some_two (λ d. has_raise Q x d.log ≡ true) (λ d. has_raise Q x d.log ≡ true) (λ d f. f)
      (λ f. joined ∙ or_left (has_raise Q x a.log) (has_raise Q x b.log) f) (λ f. joined ∙ or_right (has_raise Q x a.log) (has_raise Q x b.log) f) some)
    where
      joined : has_raise Q x (a.log ++ b.log) ≡ (has_raise Q x a.log || has_raise Q x b.log)
      joined = list_any-append (λ e. nat_eq e.pool.0 Q && nat_eq e.limit x) a.log b.log

  owes_none : (d : Actor) → d.phase ≡ Idle → (Q : ℕ) → still_owes d.phase d.owed Q ≡ true → ⊥
  owes_none d is Q owes = true≢false (sym (subst (λ (ph : Phase). still_owes ph d.owed Q ≡ true) is owes))

  holds_none : (d : Actor) → d.phase ≡ Idle → (Q : ℕ) → IsFresh market s.limits Q d → ⊥
  holds_none d is Q fresh = true≢false (sym (subst (λ (ph : Phase). has_in_hand Q ph ≡ true) is fresh.in_hand))

  covered_on : (Q : ℕ) → IsCovered market s Q → IsCovered market t Q
  covered_on Q (inl flag) = inl flag
  covered_on Q (inr (inl owes)) = inr (inl (some_two (λ d. still_owes d.phase d.owed Q ≡ true) (λ d. still_owes d.phase d.owed Q ≡ true) (λ d f. f) (λ f. absurd (owes_none a idle Q f)) (λ f. absurd (owes_none b other_idle Q f)) owes))
  covered_on Q (inr (inr (inl works))) = inr (inr (inl (some_two (IsFresh market s.limits Q) (IsFresh market s.limits Q) (λ d f. f) (λ f. absurd (holds_none a idle Q f)) (λ f. absurd (holds_none b other_idle Q f)) works)))
  covered_on Q (inr (inr (inr st))) = inr (inr (inr st))

  -- an idle actor has its whole log done
  done_of : (d : Actor) → d.phase ≡ Idle → All (λ e. e.limit ≤ slice_index s.limits e.pool.0) (done_log d.phase d.log) → All (λ e. e.limit ≤ slice_index s.limits e.pool.0) d.log
  done_of d is all = subst (λ (ph : Phase). All (λ e. e.limit ≤ slice_index s.limits e.pool.0) (done_log ph d.log)) is all

  both_done : All (λ e. e.limit ≤ slice_index s.limits e.pool.0) (a.log ++ b.log)
  both_done = All-append (λ (e : Logged). e.limit ≤ slice_index s.limits e.pool.0) a.log b.log (done_of a idle (p.raised i inside)) (done_of b other_idle (p.raised j there))

  once : (n : ℕ) → sum_by (times n) t.actors ≡ sum_by (times n) s.actors
  once n =
      let second = sum_by-set (times n) first j none nobody (let m = length-set s.actors i u in omega (arith, m, there)) in
      let same : times n (get_or first j nobody) ≡ times n b = ap (times n) (get_or-set_other s.actors i j u nobody (λ e. two (sym e))) in
      let sums = sum_by-set (times n) s.actors i u nobody inside in
      let joined = sum_by-append (λ (e : Logged). once_if (nat_eq e.ticket n)) a.log b.log in
      omega (arith, second, same, sums, joined)

  nothing : (Q : ℕ) → get_or (no_limits market) Q 0 ≡ 0
  nothing Q = replicate_same (length market.pools) Q 0

  kept_by_unite : HasParts market kept t
  kept_by_unite = let sizes = p.sized.actors i inside in record {
    raises = p.raises;
    sized = record {
      limits = p.sized.limits;
      flags = p.sized.flags;
      actors = each_two (HasSizes market) (HasSizes market) (λ d f. f)
          record { known = greater_length a.known b.known ∙ sizes.known; reads = sizes.reads; made = sizes.made; left = either_length a.left b.left ∙ sizes.left; owed = sizes.owed }
          record { known = length-replicate (length market.pools) 0; reads = length-replicate (length market.pools) 0; made = length-replicate (length market.pools) false; left = length-replicate (length market.pools) false; owed = length-replicate (length market.pools) false }
          p.sized.actors;
    };
    logged = record {
      limits = λ Q. logged_on Q (slice_index s.limits Q) (p.logged.limits Q);
      known = each_two (λ d. (Q : ℕ) → IsLogged s Q (slice_index d.known Q)) (λ d. (Q : ℕ) → IsLogged t Q (slice_index d.known Q)) (λ d f Q. logged_on Q (slice_index d.known Q) (f Q))
          (greater_at a.known b.known (IsLogged t) (λ Q. logged_on Q (slice_index a.known Q) (p.logged.known i inside Q)) (λ Q. logged_on Q (slice_index b.known Q) (p.logged.known j there Q)))
          (λ Q. inl (nothing Q)) p.logged.known;
      reads = each_two (λ d. (Q : ℕ) → IsLogged s Q (slice_index d.reads Q)) (λ d. (Q : ℕ) → IsLogged t Q (slice_index d.reads Q)) (λ d f Q. logged_on Q (slice_index d.reads Q) (f Q))
          (λ Q. logged_on Q (slice_index a.reads Q) (p.logged.reads i inside Q)) (λ Q. inl (nothing Q)) p.logged.reads;
    };
    in_order = record {
      count = p.in_order.count;
      once = λ n. once n ∙ p.in_order.once n;
      placed = each_two (λ d. All (λ e. slice_get p.raises e.ticket ≡ Some (raise_of e)) d.log) (λ d. All (λ e. slice_get p.raises e.ticket ≡ Some (raise_of e)) d.log) (λ d f. f)
          (All-append (λ (e : Logged). slice_get p.raises e.ticket ≡ Some (raise_of e)) a.log b.log (p.in_order.placed i inside) (p.in_order.placed j there)) (λ k d h. absurd (omega (arith, h))) p.in_order.placed;
    };
    sound = p.sound;
    front = p.front;
    raised = each_two (λ d. All (λ e. e.limit ≤ slice_index s.limits e.pool.0) (done_log d.phase d.log)) (λ d. All (λ e. e.limit ≤ slice_index s.limits e.pool.0) (done_log d.phase d.log)) (λ d f. f)
        (subst (λ (ph : Phase). All (λ e. e.limit ≤ slice_index s.limits e.pool.0) (done_log ph (a.log ++ b.log))) (sym idle) both_done) (λ k d h. absurd (omega (arith, h))) p.raised;
    known = each_two (λ d. (Q : ℕ) → (slice_index d.known Q ≤ slice_index s.limits Q) × (slice_index d.reads Q ≤ slice_index d.known Q)) (λ d. (Q : ℕ) → (slice_index d.known Q ≤ slice_index s.limits Q) × (slice_index d.reads Q ≤ slice_index d.known Q)) (λ d f. f)
        (λ Q. (greater_at a.known b.known (λ R x. x ≤ slice_index s.limits R) (λ R. (p.known i inside R).0) (λ R. (p.known j there R).0) Q, let low = (p.known i inside Q).1 in let up = greater_high a.known b.known Q in omega (arith, low, up)))
        (λ Q. let z = nothing Q in (omega (arith, z), omega (arith, z))) p.known;
    covered = λ Q h. covered_on Q (p.covered Q h);
    left = λ Q h flag. some_two (λ d. get_or d.left Q false ≡ true) (λ d. get_or d.left Q false ≡ true) (λ d f. f) (either_left a.left b.left Q)
        (either_right a.left b.left Q (let m = (p.sized.actors j there).left in omega (arith, m, sizes.left))) (p.left Q h flag);
    in_phase = each_two (λ d. FitsPhase market d d.phase) (λ d. FitsPhase market d d.phase) (λ d f. f) (subst (FitsPhase market u) (sym idle) tt) tt p.in_phase;
  }

pub unites_keep : (market : Market) (kept : List Raise) (s : State) (i j : ℕ) → HasParts market kept s → i < length s.actors → j < length s.actors → i ≢ j → is_idle (actor_at s i).phase ≡ true → is_idle (actor_at s j).phase ≡ true
    → HasParts market kept (after_unite market s i j)
unites_keep market kept s i j p inside there two idle other = kept_by_unite market kept s i j p inside there two (idle_is (actor_at s i).phase idle) (idle_is (actor_at s j).phase other)
