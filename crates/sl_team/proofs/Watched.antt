-- A reader that has made its first looks, and one more.
use Rattle.std.proofs.Common.{◌≡◌, ◌≢◌, ◌∙◌, ℕ, zero, suc, ◌+◌, ◌<◌, ◌≤◌, true, false, true≢false, List, [], ◌∷◌, All, length, get_or, set, sum, refl, sym, ap, subst, inl, inr, arith, append-nil, get_or-set_other}
use Rattle.std.specs.Prelude.{slice_index}
use Rattle.std.proofs.lemmas.Bool.{cases_eq, cases_lt}
use Rattle.std.proofs.lemmas.Grind.{get_or-set_at}
use Rattle.std.proofs.lemmas.List.Elements.{All-set}
use Rattle.std.proofs.lemmas.List.Sums.{sum_by-cons}
use Rattle.sl_types.specs.Market.{Market}
use Rattle.sl_laws.specs.Stable.{IsStable}
use Rattle.sl_core.specs.Machine.{has_any}
use Rattle.sl_floor.specs.Floor.{Sitting, FloorValue, SeatValue, go_view, IsOf, IsIdle, KnowsMore, HasNoneLeft, limit_place}
use Rattle.sl_floor.specs.Held.{AreLimits, PassNone, IsSized}
use Rattle.sl_floor.proofs.Last.{none_up}
use Rattle.sl_watch.specs.Looking.{Looks, StepsOnLimits}
use Rattle.sl_desk.specs.Seats.{Gains}
use Rattle.sl_desk.proofs.Gaining.{gains_none, gains_then, of_after}
use Rattle.sl_team.specs.Clearing.{IsAtMost}
use Rattle.sl_team.specs.Seats.{HasWorked}
use Rattle.sl_team.specs.Watching.{HasLooked, HasWatched, AreLong, AreSeen}

-- what a look says, of what the seat knows then
pub looked_of : (floor : FloorValue) (before after : SeatValue) (found : List ℕ) → Looks before after found → KnowsMore before after → StepsOnLimits floor.market before.view.steps after.view.steps
    → length found ≡ length floor.market.pools → AreLimits found → PassNone floor.market found → HasLooked floor before after
looked_of floor before after found looks rises steps each top low =
    let is : after.view.actor.known ≡ found = ap (λ (s : SeatValue). s.view.actor.known) looks in
    record {
      looks = subst (Looks before after) (sym is) looks;
      rises = rises;
      steps = steps;
      each = ap length is ∙ each;
      top = subst AreLimits (sym is) top;
      low = subst (PassNone floor.market) (sym is) low;
    }

sum_up : (xs ys : List ℕ) → length xs ≡ length ys → ((P : ℕ) → slice_index xs P ≤ slice_index ys P) → sum xs ≤ sum ys
sum_up [] ys same up = omega arith
sum_up (x ∷ xs) [] same up = absurd (omega (arith, same))
sum_up (x ∷ xs) (y ∷ ys) same up =
    let rest = sum_up xs ys (omega (arith, same)) (λ P. up (suc P)) in
    let here : x ≤ y = up 0 in
    let a = sum_by-cons (λ (z : ℕ). z) x xs in let b = sum_by-cons (λ (z : ℕ). z) y ys in
    omega (arith, rest, here, a, b)

-- no word has fewer steps
steps_up : (market : Market) (before after : List ℕ) → StepsOnLimits market before after → (i : ℕ) → slice_index before i ≤ slice_index after i
steps_up market before after s zero = let same = s.others 0 (λ Q low. λ e. absurd (omega (arith, e))) in omega (arith, same)
steps_up market before after s (suc Q) = elim (cases_lt Q (length market.pools)) [
  | inl less ↦
      let more = s.limits Q less in
      let is : suc Q ≡ limit_place Q = omega arith in
      let a = ap (slice_index before) is in let b = ap (slice_index after) is in omega (arith, more, a, b)
  | inr high ↦ let same = s.others (suc Q) (λ R low. λ e. absurd (omega (arith, e, low, high))) in omega (arith, same)
]

looked_gains : (floor : FloorValue) (before after : SeatValue) → length before.view.actor.known ≡ length floor.market.pools → HasLooked floor before after → Gains before after []
looked_gains floor before after wide l = record {
  table = ap (λ (s : SeatValue). s.table) l.looks;
  room = ap (λ (s : SeatValue). s.room) l.looks;
  market = ap (λ (s : SeatValue). s.view.market) l.looks;
  kept = ap (λ (s : SeatValue). s.view.kept) l.looks;
  share = ap (λ (s : SeatValue). s.view.share) l.looks;
  allowance = let e = ap (λ (s : SeatValue). s.view.allowance) l.looks in omega (arith, e);
  log = ap (λ (s : SeatValue). s.log) l.looks ∙ sym (append-nil before.log);
  whole = ap (λ (s : SeatValue). s.view.actor.log) l.looks ∙ sym (append-nil before.view.actor.log);
  knows = record {
    each = l.each ∙ sym wide;
    limits = l.top;
    rises = l.rises;
    more = let each = l.each in let up = sum_up before.view.actor.known after.view.actor.known (omega (arith, each, wide)) l.rises in omega (arith, up);
  };
  left = ap (λ (s : SeatValue). length s.view.actor.left) l.looks;
}

-- what a reader has seen in its first n looks
pub record IsWatching (floor : FloorValue) (before now : SeatValue) (seen : List (List ℕ)) (n : ℕ) : Type 0 where
  pub of : IsOf floor now
  pub idle : IsIdle now
  pub gains : Gains before now []
  pub left : now.view.actor.left ≡ before.view.actor.left
  pub steps : (i : ℕ) → slice_index before.view.steps i ≤ slice_index now.view.steps i
  pub wide : length now.view.actor.known ≡ length floor.market.pools
  pub long : AreLong floor.market seen
  pub low : (k : ℕ) (d : List ℕ) → k < n → PassNone floor.market (get_or seen k d)
  pub rising : (k : ℕ) → k + 1 < n → IsAtMost (get_or seen (k + 1) []) (get_or seen k [])
  pub known : (k : ℕ) → k < n → (Q : ℕ) → slice_index (get_or seen k []) Q ≤ slice_index now.view.actor.known Q

pub watches_none : (floor : FloorValue) (seat : SeatValue) (seen : List (List ℕ)) → IsOf floor seat → IsIdle seat → IsSized seat.view → AreLong floor.market seen → IsWatching floor seat seat seen 0
watches_none floor seat seen of idle sized long = record {
  of = of;
  idle = idle;
  gains = gains_none seat sized.limits;
  left = refl;
  steps = λ i. omega arith;
  wide = sized.lists.known ∙ ap (λ (m : Market). length m.pools) of.market;
  long = long;
  low = λ k d h. absurd (omega (arith, h));
  rising = λ k h. absurd (omega (arith, h));
  known = λ k h. absurd (omega (arith, h));
}

module _ (floor : FloorValue) (before now next : SeatValue) (seen : List (List ℕ)) (n : ℕ) (within : n < length seen) (w : IsWatching floor before now seen n) (l : HasLooked floor now next) where
  abbrev saw : List ℕ
  saw = next.view.actor.known

  abbrev later : List (List ℕ)
  later = set seen n saw

  here : (k : ℕ) (d : List ℕ) → k ≡ n → get_or later k d ≡ saw
  here k d is = get_or-set_at seen n k saw d is within

  there : (k : ℕ) (d : List ℕ) → k ≢ n → get_or later k d ≡ get_or seen k d
  there k d other = get_or-set_other seen n k saw d other

  one_more : Gains now next []
  one_more = looked_gains floor now next w.wide l

  rising : (k : ℕ) → k + 1 < n + 1 → IsAtMost (get_or later (k + 1) []) (get_or later k [])
  rising k h = elim (cases_eq (k + 1) n) [
    | inl is ↦
        let was : length (get_or seen k []) ≡ length floor.market.pools = w.long k [] (omega (arith, is, within)) in
        let old = there k [] (λ e. omega (arith, e, is)) in
        subst (λ (x : List ℕ). IsAtMost x (get_or later k [])) (sym (here (k + 1) [] is)) (subst (IsAtMost saw) (sym old) (record {
          each = was ∙ sym l.each;
          low = λ Q. let a = w.known k (omega (arith, is)) Q in let b = l.rises Q in omega (arith, a, b);
        }))
    | inr other ↦
        subst (λ (x : List ℕ). IsAtMost x (get_or later k [])) (sym (there (k + 1) [] other)) (subst (IsAtMost (get_or seen (k + 1) [])) (sym (there k [] (λ e. omega (arith, e, h))))
        (w.rising k (omega (arith, h, other))))
  ]

  pub watches_more : IsWatching floor before next later (n + 1)
  watches_more = record {
    of = of_after floor now next [] w.of one_more;
    idle = subst IsIdle (sym l.looks) w.idle;
    gains = gains_then before now next [] [] w.gains one_more;
    left = ap (λ (s : SeatValue). s.view.actor.left) l.looks ∙ w.left;
    steps = λ i. let a = w.steps i in let b = steps_up floor.market now.view.steps next.view.steps l.steps i in omega (arith, a, b);
    wide = l.each;
    long = All-set (λ (look : List ℕ). length look ≡ length floor.market.pools) seen n saw l.each w.long;
    low = λ k d h. elim (cases_eq k n) [
      | inl is ↦ subst (PassNone floor.market) (sym (here k d is)) l.low
      | inr other ↦ subst (PassNone floor.market) (sym (there k d other)) (w.low k d (omega (arith, h, other)))
    ];
    rising = rising;
    known = λ k h Q. elim (cases_eq k n) [
      | inl is ↦ let e = ap (λ (x : List ℕ). slice_index x Q) (here k [] is) in omega (arith, e)
      | inr other ↦ let e = ap (λ (x : List ℕ). slice_index x Q) (there k [] other) in let a = w.known k (omega (arith, h, other)) Q in let b = l.rises Q in omega (arith, e, a, b)
    ];
  }

module _ (floor : FloorValue) (before now : SeatValue) (seen : List (List ℕ)) (n : ℕ) (all : length seen ≤ n) (w : IsWatching floor before now seen n) where
  pub has_watched : HasWatched floor before now
  has_watched = record { of = w.of; idle = w.idle; gains = w.gains; left = w.left; steps = w.steps }

  pub are_seen : AreSeen floor.market seen
  are_seen = record {
    long = w.long;
    low = λ k d h. w.low k d (omega (arith, h, all));
    rising = λ k h. w.rising k (omega (arith, h, all));
  }

-- a bare seat has no pool left to scan
pub bare_none : (made seat : Sitting) → made ≡ go_view true seat → has_any made.actor.left ≡ false
bare_none made seat is = ap (λ (v : Sitting). has_any v.actor.left) is ∙ none_up (length seat.market.pools)

-- where it has watched, it has worked
pub watched_works : (floor : FloorValue) (old new : SeatValue) → HasNoneLeft old → length old.log ≤ old.room → HasWatched floor old new → HasWorked floor old new
watched_works floor old new none fits w = record {
  of = w.of;
  idle = w.idle;
  works = record { raises = []; gains = w.gains; steps = w.steps };
  fits = let e = ap length (w.gains.log ∙ append-nil old.log) in let r = w.gains.room in omega (arith, e, r, fits);
  full = λ any. absurd (true≢false (sym any ∙ (ap has_any w.left ∙ none)));
}

-- what was seen is at most limits that are stable
pub seen_at_most : (market : Market) (limits : List ℕ) (seen : List (List ℕ)) → IsStable market (slice_index limits) → length limits ≡ length market.pools → AreSeen market seen → All (IsAtMost limits) seen
seen_at_most market limits seen stable each s = λ k d h. record {
  each = s.long k d h ∙ sym each;
  low = s.low k d h (slice_index limits) stable;
}
