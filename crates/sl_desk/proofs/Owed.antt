-- The mark that comes next, and the last one.
use Rattle.std.proofs.Common.{◌≡◌, ℕ, suc, ◌+◌, ◌<◌, ◌≤◌, Bool, true, false, true≢false, not, ◌&&◌, cond, List, [], ◌∷◌, ◌++◌, length, map, get_or, take, refl, sym, ap, ◌∙◌, subst, inl, inr, arith, length-set, get_or-set_other}
use Rattle.std.proofs.lemmas.Bool.{cases_eq, cond-true, cond-false}
use Rattle.std.proofs.lemmas.Grind.{get_or-set_at}
use Rattle.std.proofs.lemmas.List.{take_more, take_all, length_push}
use Rattle.std.proofs.lemmas.List.Folds.{list_any_at}
use Rattle.std.proofs.lemmas.List.FromFn.{get_or-map-range_with_len, length-map-range_with_len}
use Rattle.sl_types.specs.declared.kinds.PoolId.{PoolId}
use Rattle.sl_types.specs.Market.{Market}
use Rattle.sl_laws.specs.Stable.{feeds}
use Rattle.sl_core.specs.declared.kinds.Phase.{Phase}
use Rattle.sl_core.specs.declared.kinds.Phase.TheVariants.{Idle, Owing}
use Rattle.sl_core.specs.State.{Actor, is_idle}
use Rattle.sl_core.specs.Machine.{has_any, fed_pools, phase_after_raise, still_owes}
use Rattle.sl_core.proofs.Actors.{up_within}
use Rattle.sl_contend.specs.Contention.{fed_by}
use Rattle.sl_floor.specs.Floor.{FloorValue, SeatValue, flag_place, mark_view}
use Rattle.sl_desk.specs.Seats.{FitsMarket, Stepped}
use Rattle.sl_desk.specs.Reading.{is_in}
use Rattle.sl_desk.specs.Marking.{HasMarked}
use Rattle.sl_desk.proofs.Numbers.{in_here, in_else, stepped_on, stepped_none}
use Rattle.sl_desk.proofs.Gaining.{gains_none}
use Rattle.sl_desk.proofs.Fronts.{new_at, in_filter, passes_at, within_at, number_at, as_many}

-- flags of which none is up
pub none_any : (flags : List Bool) → ((k : ℕ) → k < length flags → get_or flags k false ≡ false) → has_any flags ≡ false
none_any [] none = refl
none_any (b ∷ bs) none = rw (none 0 (omega arith)) (none_any bs (λ k h. none (suc k) (omega (arith, h))))

module _ (market : Market) (P : PoolId) (before now : SeatValue) (done : List ℕ) (r : HasMarked market P before now done)
    (Q : ℕ) (within : Q < length market.pools) (fed : feeds market P.0 Q ≡ true) (new : is_in Q done ≡ false) where
  abbrev a : Actor
  a = now.view.actor

  up : get_or a.owed Q false ≡ true
  up = r.owed Q within ∙ rw (fed, new) refl

  some_up : has_any a.owed ≡ true
  some_up = list_any_at (λ flag. flag) a.owed Q false (up_within a.owed Q up) up

  phase : a.phase ≡ Owing P
  phase = r.phase ∙ cond-true (has_any a.owed) (Owing P) Idle some_up

  pub may_mark : still_owes a.phase a.owed Q ≡ true
  may_mark = ap (λ (ph : Phase). still_owes ph a.owed Q) phase ∙ up

  abbrev next : SeatValue
  next = record now { view = mark_view now.view Q }

  abbrev all_done : List ℕ
  all_done = done ++ Q ∷ []

  owed : (R : ℕ) → R < length market.pools → get_or next.view.actor.owed R false ≡ (feeds market P.0 R && not (is_in R all_done))
  owed R h = elim (cases_eq R Q) [
    | inl is ↦ get_or-set_at a.owed Q R false false is (let n = r.all in omega (arith, n, within)) ∙ rw (in_here R Q done is) (sym (no_and (feeds market P.0 R)))
    | inr other ↦ get_or-set_other a.owed Q R false false other ∙ (r.owed R h ∙ ap (λ b. feeds market P.0 R && not b) (sym (in_else R Q done other)))
  ]
    where
      no_and : (b : Bool) → (b && false) ≡ false
      no_and true = refl
      no_and false = refl

  left : (R : ℕ) → is_in R all_done ≡ false → get_or next.view.actor.left R false ≡ get_or before.view.actor.left R false
  left R miss = elim (cases_eq R Q) [
    | inl is ↦ absurd (true≢false (sym (in_here R Q done is) ∙ miss))
    | inr other ↦ get_or-set_other a.left Q R true false other ∙ r.left R (sym (in_else R Q done other) ∙ miss)
  ]

  pub marks_more : HasMarked market P before next all_done
  marks_more = record {
    gains = let g = r.gains in record {
      table = g.table;
      room = g.room;
      market = g.market;
      kept = g.kept;
      share = g.share;
      allowance = g.allowance;
      log = g.log;
      whole = g.whole;
      knows = g.knows;
      left = length-set a.left Q true ∙ g.left;
    };
    steps = subst (Stepped before.view next.view) (sym (length_push done Q)) (stepped_on before.view now.view next.view (flag_place now.view.market Q) (length done) refl r.steps);
    left = left;
    phase = ap (λ (ph : Phase). cond (has_any next.view.actor.owed) ph Idle) phase;
    all = length-set a.owed Q false ∙ r.all;
    owed = owed;
  }

-- a seat that has raised P and marked nothing yet
pub marks_none : (market : Market) (P : PoolId) (seat : SeatValue) → FitsMarket market seat.view → seat.view.actor.phase ≡ phase_after_raise market P true → seat.view.actor.owed ≡ fed_pools market P.0 → HasMarked market P seat seat []
marks_none market P seat sized phase owed =
    let n = length-map-range_with_len (λ Q. feeds market P.0 Q) 0 (length market.pools) in
    record {
      gains = gains_none seat sized.limits;
      steps = stepped_none seat.view;
      left = λ Q miss. refl;
      phase = phase ∙ ap (λ (l : List Bool). cond (has_any l) (Owing P) Idle) (sym owed);
      all = ap length owed ∙ n;
      owed = λ Q h. ap (λ (l : List Bool). get_or l Q false) owed ∙ (get_or-map-range_with_len (λ Q. feeds market P.0 Q) 0 (length market.pools) Q Q false h (omega arith) ∙ sym (and_yes (feeds market P.0 Q)));
    }
  where
    and_yes : (b : Bool) → (b && true) ≡ b
    and_yes true = refl
    and_yes false = refl

module _ (floor : FloorValue) (P : PoolId) (before now : SeatValue) (k : ℕ) (pools : List PoolId) (are : map (λ p. p.0) pools ≡ fed_by floor.market P.0) (h : k < length pools)
    (r : HasMarked floor.market P before now (take k (fed_by floor.market P.0))) where
  abbrev R : ℕ
  R = (get_or pools k (record { 0 = 0 })).0

  abbrev numbers : List ℕ
  numbers = fed_by floor.market P.0

  inside : k < length numbers
  inside = let n = as_many pools numbers are in omega (arith, n, h)

  is : get_or numbers k 0 ≡ R
  is = number_at pools numbers k (record { 0 = 0 }) are h

  fed_here : feeds floor.market P.0 R ≡ true
  fed_here = subst (λ S. feeds floor.market P.0 S ≡ true) is (passes_at (λ S. feeds floor.market P.0 S) (length floor.market.pools) k inside)

  pub within_here : R < length floor.market.pools
  within_here = subst (λ S. S < length floor.market.pools) is (within_at (λ S. feeds floor.market P.0 S) (length floor.market.pools) k inside)

  new_here : is_in R (take k numbers) ≡ false
  new_here = subst (λ S. is_in S (take k numbers) ≡ false) is (new_at (λ S. feeds floor.market P.0 S) 0 (length floor.market.pools) k inside)

  pub may_here : still_owes now.view.actor.phase now.view.actor.owed R ≡ true
  may_here = may_mark floor.market P before now (take k numbers) r R within_here fed_here new_here

  pub next_marked : (last : SeatValue) → last ≡ record now { view = mark_view now.view R } → HasMarked floor.market P before last (take (k + 1) numbers)
  next_marked last same =
      let front : take (k + 1) numbers ≡ take k numbers ++ R ∷ [] = take_more numbers k 0 inside ∙ ap (λ (S : ℕ). take k numbers ++ S ∷ []) is in
      let more = marks_more floor.market P before now (take k numbers) r R within_here fed_here new_here in
      subst (λ (z : SeatValue). HasMarked floor.market P before z (take (k + 1) numbers)) (sym same)
      (subst (λ (l : List ℕ). HasMarked floor.market P before (record now { view = mark_view now.view R }) l) (sym front) more)

-- the marks at the end of the list are all marks
pub whole_marks : (market : Market) (P : PoolId) (before now : SeatValue) (k : ℕ) (pools : List PoolId) → map (λ p. p.0) pools ≡ fed_by market P.0 → length pools ≤ k
    → HasMarked market P before now (take k (fed_by market P.0)) → HasMarked market P before now (fed_by market P.0)
whole_marks market P before now k pools are h r =
    let n = as_many pools (fed_by market P.0) are in
    subst (λ (l : List ℕ). HasMarked market P before now l) (take_all k (fed_by market P.0) (omega (arith, n, h))) r

-- after the last mark nothing is in hand
pub all_marked : (market : Market) (P : PoolId) (before now : SeatValue) → HasMarked market P before now (fed_by market P.0) → is_idle now.view.actor.phase ≡ true
all_marked market P before now r =
    let owed = now.view.actor.owed in
    let none = none_any owed (λ k h.
    let k_in : k < length market.pools = let n = r.all in omega (arith, n, h) in
    let is = in_filter (λ S. feeds market P.0 S) k 0 (length market.pools) (omega arith) (omega (arith, k_in)) in
    r.owed k k_in ∙ (ap (λ b. feeds market P.0 k && not b) is ∙ never (feeds market P.0 k))) in
    ap is_idle (r.phase ∙ cond-false (has_any owed) (Owing P) Idle none)
  where
    never : (b : Bool) → (b && not b) ≡ false
    never true = refl
    never false = refl
