-- A seat that has looked at the first pools, and at one more.
use Rattle.std.proofs.Common.{◌≡◌, ℕ, ◌+◌, ◌<◌, ◌≤◌, true, true≢false, List, length, get_or, set, refl, sym, ap, ◌∙◌, subst, inl, inr, arith, length-set, get_or-set_other}
use Rattle.std.specs.Prelude.{slice_index}
use Rattle.std.proofs.Math.ListN.{get_or-eq_default}
use Rattle.std.proofs.lemmas.Bool.{cases_eq, cases_lt, lt-ltb}
use Rattle.std.proofs.lemmas.Grind.{get_or-set_at, get_or_default_zero, same_number_lists}
use Rattle.sl_types.specs.declared.kinds.TheConstants.{MAX_SCORE}
use Rattle.sl_types.specs.Market.{Market}
use Rattle.sl_laws.specs.Limits.{Limits}
use Rattle.sl_laws.specs.Stable.{IsStable}
use Rattle.sl_core.specs.declared.kinds.Phase.{Phase}
use Rattle.sl_core.specs.declared.kinds.Phase.TheVariants.{Idle, Working, Ready, Drawn, Owing}
use Rattle.sl_core.specs.State.{Actor, is_idle}
use Rattle.sl_core.specs.Machine.{may_read, actor_after_read}
use Rattle.sl_floor.specs.Floor.{FloorValue, SeatValue, IsOf, IsIdle, CanRead, KnowsMore, limit_place, read_view, step_on, word_count}
use Rattle.sl_floor.specs.Held.{AreLimits, PassNone, IsSized}
use Rattle.sl_watch.specs.Looking.{seat_with, StepsOnFirst, Looks}

-- what a read does to an idle actor
idle_reads : (market : Market) (ph : Phase) (a : Actor) (Q word : ℕ) → is_idle ph ≡ true → actor_after_read market ph a Q word ≡ record a { known = set a.known Q word }
idle_reads market Idle a Q word idle = refl
idle_reads market (Working P) a Q word idle = absurd (true≢false (sym idle))
idle_reads market (Ready P x) a Q word idle = absurd (true≢false (sym idle))
idle_reads market (Drawn P x) a Q word idle = absurd (true≢false (sym idle))
idle_reads market (Owing P) a Q word idle = absurd (true≢false (sym idle))

-- it may read each pool
pub idle_may : (market : Market) (ph : Phase) (a : Actor) (Q : ℕ) → is_idle ph ≡ true → Q < length market.pools → may_read market ph a Q ≡ true
idle_may market Idle a Q idle within = lt-ltb Q (length market.pools) within
idle_may market (Working P) a Q idle within = absurd (true≢false (sym idle))
idle_may market (Ready P x) a Q idle within = absurd (true≢false (sym idle))
idle_may market (Drawn P x) a Q idle within = absurd (true≢false (sym idle))
idle_may market (Owing P) a Q idle within = absurd (true≢false (sym idle))

-- one more step, on the word of the next pool
steps_more : (before after : List ℕ) (n : ℕ) → n + 1 < length after → StepsOnFirst n before after → StepsOnFirst (n + 1) before (step_on (limit_place n) after)
steps_more before after n inside s = record {
  each = length-set after (limit_place n) (get_or after (limit_place n) 0 + 1) ∙ s.each;
  limits = λ Q low. elim (cases_eq Q n) [
    | inl is ↦
        let here = get_or-set_at after (limit_place n) (limit_place Q) (get_or after (limit_place n) 0 + 1) 0 (ap limit_place is) inside in
        let was = s.others (limit_place n) (λ R less. λ e. absurd (omega (arith, less, e))) in
        let same = ap (λ (R : ℕ). get_or before (limit_place R) 0) is in
        omega (arith, here, was, same)
    | inr other ↦
        let there = get_or-set_other after (limit_place n) (limit_place Q) (get_or after (limit_place n) 0 + 1) 0 (λ e. other (omega (arith, e))) in
        let was = s.limits Q (omega (arith, low, other)) in
        omega (arith, there, was)
  ];
  others = λ i none.
      get_or-set_other after (limit_place n) i (get_or after (limit_place n) 0 + 1) 0 (none n (omega arith)) ∙ s.others i (λ Q low. none Q (omega (arith, low)));
}

-- what an idle seat has found at the first n pools
pub record HasLooked (floor : FloorValue) (before now : SeatValue) (out : List ℕ) (n : ℕ) : Type 0 where
  pub seat_is : now ≡ seat_with before now.view.actor.known now.view.steps
  pub wide : length now.view.actor.known ≡ length floor.market.pools
  pub long : length out ≡ length floor.market.pools
  pub counted : length now.view.steps ≡ word_count floor.market
  pub found : (Q : ℕ) → Q < n → slice_index now.view.actor.known Q ≡ slice_index out Q
  pub rises : KnowsMore before now
  pub top : (Q : ℕ) → Q < n → slice_index out Q ≤ MAX_SCORE + 1
  pub low : (l : Limits) → IsStable floor.market l → (Q : ℕ) → Q < n → slice_index out Q ≤ l Q
  pub steps : StepsOnFirst n before.view.steps now.view.steps

module _ (floor : FloorValue) (before : SeatValue) (of : IsOf floor before) (idle : IsIdle before) where
  pub looks_none : (out : List ℕ) → IsSized before.view → length out ≡ length floor.market.pools → HasLooked floor before before out 0
  looks_none out sized long =
      let pools = ap (λ (m : Market). length m.pools) of.market in
      let known = sized.lists.known in
      let counted = sized.steps in
      record {
        seat_is = refl;
        wide = omega (arith, known, pools);
        long = long;
        counted = omega (arith, counted, pools);
        found = λ Q low. absurd (omega (arith, low));
        rises = λ Q. omega arith;
        top = λ Q low. absurd (omega (arith, low));
        low = λ l stable Q low. absurd (omega (arith, low));
        steps = record { each = refl; limits = λ Q low. absurd (omega (arith, low)); others = λ i none. refl };
      }

  module _ (now : SeatValue) (out : List ℕ) (n : ℕ) (r : HasLooked floor before now out n) where
    pub of_now : IsOf floor now
    of_now = subst (IsOf floor) (sym r.seat_is) (record { table = of.table; market = of.market; kept = of.kept; shares = of.shares })

    idle_now : IsIdle now
    idle_now = subst IsIdle (sym r.seat_is) idle

    pub may_now : n < length floor.market.pools → CanRead floor now n
    may_now within = idle_may floor.market now.view.actor.phase now.view.actor n idle_now within

    -- one more
    pub looks_more : (next : SeatValue) (word : ℕ) → n < length floor.market.pools → next ≡ record now { view = read_view now.view n word } → KnowsMore now next → word ≤ MAX_SCORE + 1
        → ((l : Limits) → IsStable floor.market l → word ≤ l n) → HasLooked floor before next (set out n word) (n + 1)
    looks_more next word within next_is more top low =
        let known = now.view.actor.known in
        let steps = now.view.steps in
        let actor = idle_reads now.view.market now.view.actor.phase now.view.actor n word idle_now in
        let read : next ≡ seat_with now (set known n word) (step_on (limit_place n) steps) =
        next_is ∙ ap (λ (a : Actor). record now { view = record now.view { actor = a; steps = step_on (limit_place n) steps } }) actor in
        let whole : seat_with now (set known n word) (step_on (limit_place n) steps) ≡ seat_with before (set known n word) (step_on (limit_place n) steps) =
        ap (λ (z : SeatValue). seat_with z (set known n word) (step_on (limit_place n) steps)) r.seat_is in
        let known_is : next.view.actor.known ≡ set known n word = ap (λ (z : SeatValue). z.view.actor.known) read in
        let wide = r.wide in let long = r.long in let counted = r.counted in
        subst (λ (z : SeatValue). HasLooked floor before z (set out n word) (n + 1)) (sym (read ∙ whole)) (record {
          seat_is = refl;
          wide = length-set known n word ∙ r.wide;
          long = length-set out n word ∙ r.long;
          counted = length-set steps (limit_place n) (get_or steps (limit_place n) 0 + 1) ∙ r.counted;
          found = λ Q less. elim (cases_eq Q n) [
            | inl is ↦ get_or-set_at known n Q word 0 is (omega (arith, wide, within)) ∙ sym (get_or-set_at out n Q word 0 is (omega (arith, long, within)))
            | inr other ↦ get_or-set_other known n Q word 0 other ∙ (r.found Q (omega (arith, less, other)) ∙ sym (get_or-set_other out n Q word 0 other))
          ];
          rises = λ Q. let a = r.rises Q in let b = more Q in let e = ap (λ (l : List ℕ). slice_index l Q) known_is in omega (arith, a, b, e);
          top = λ Q less. elim (cases_eq Q n) [
            | inl is ↦ let e = get_or-set_at out n Q word 0 is (omega (arith, long, within)) in omega (arith, e, top)
            | inr other ↦ let e = get_or-set_other out n Q word 0 other in let t = r.top Q (omega (arith, less, other)) in omega (arith, e, t)
          ];
          low = λ l stable Q less. elim (cases_eq Q n) [
            | inl is ↦ let e = get_or-set_at out n Q word 0 is (omega (arith, long, within)) in let t = low l stable in let f = ap l is in omega (arith, e, t, f)
            | inr other ↦ let e = get_or-set_other out n Q word 0 other in let t = r.low l stable Q (omega (arith, less, other)) in omega (arith, e, t)
          ];
          steps = steps_more before.view.steps steps n (omega (arith, counted, within)) r.steps;
        })

-- a look that is done
module _ (floor : FloorValue) (before now : SeatValue) (out : List ℕ) (n : ℕ) (all : n ≡ length floor.market.pools) (r : HasLooked floor before now out n) where
  known_is : now.view.actor.known ≡ out
  known_is = let wide = r.wide in let long = r.long in same_number_lists now.view.actor.known out (omega (arith, wide, long)) (λ Q low. r.found Q (omega (arith, low, wide, all)))

  pub looked : Looks before now out
  looked = r.seat_is ∙ ap (λ (l : List ℕ). seat_with before l now.view.steps) known_is

  pub limits_are : AreLimits out
  limits_are = λ k d h. let long = r.long in let same = get_or_default_zero out k d h in let top = r.top k (omega (arith, h, long, all)) in omega (arith, same, top)

  pub passes_none : PassNone floor.market out
  passes_none l stable Q = elim (cases_lt Q n) [
    | inl less ↦ r.low l stable Q less
    | inr high ↦ let long = r.long in let none = get_or-eq_default out 0 {n = Q} (omega (arith, long, all, high)) in omega (arith, none)
  ]
