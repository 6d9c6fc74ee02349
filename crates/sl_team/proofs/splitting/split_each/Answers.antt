use Rattle.std.proofs.Common.{◌≡◌, ◌∙◌, ◌<◌, ◌≤◌, false, ◌+◌, ◌/◌, ◌∷◌, [], All, length, get_or, ap, subst, arith, append-nil, length-append, inr, refl}
use Rattle.std.proofs.lemmas.List.Elements.{All-weaker}
use Rattle.sl_floor.specs.Floor.{SeatValue}
use Rattle.sl_team.specs.Seats.{IsSpare, HasAtLeast}
use Rattle.sl_team.specs.Crew.{IsSplitAt, first_known, first_log, total_of}
use Rattle.sl_team.proofs.Joined.{all_front}
use Rattle.sl_team.proofs.Splits.{split_keeps, level_keeps, split_long}
use Rattle.sl_team.proofs.splitting.split_each.Goals as goal

pub loop-at-init : goal.loop-at-init
loop-at-init c = record {
  crew = c.requires.crew;
  spares = c.requires.spares;
  long = omega arith;
  count = omega arith;
  capacity = refl;
  halves = λ share allowance all. (
    All-weaker (HasAtLeast share allowance) (HasAtLeast (share / 2) (allowance / 2)) (λ s has. (let a = has.0 in omega (arith, a), let b = has.1 in omega (arith, b))) c.args.crew.now.items all,
    λ j d low high. all j d high,
  );
}

pub returns-in_default-clause-crew : goal.returns-in_default-clause-crew
returns-in_default-clause-crew c = c.loop-at.invariant.crew

pub returns-in_default-clause-count : goal.returns-in_default-clause-count
returns-in_default-clause-count c =
    let none = c.in_default.ensures.items in
    let same : length c.loop-at.spares.items ≡ length c.pop.new.self.items = ap length none ∙ ap length (append-nil c.pop.new.self.items) in
    let count = c.loop-at.invariant.count in
    omega (arith, same, count)

pub returns-in_default-clause-halves : goal.returns-in_default-clause-halves
returns-in_default-clause-halves c = λ share allowance all. (c.loop-at.invariant.halves share allowance all).0

pub split_at-requires-clause-within : goal.split_at-requires-clause-within
split_at-requires-clause-within c = let long = c.loop-at.invariant.long in omega (arith, long)

pub split_at-requires-clause-seat : goal.split_at-requires-clause-seat
split_at-requires-clause-seat c = λ d.
    let long = c.loop-at.invariant.long in
    let inside : c.loop-at.at < length c.loop-at.crew.items = omega (arith, long) in
    let fresh = c.loop-at.invariant.crew.each c.loop-at.at d inside in
    let low = (c.loop-at.invariant.halves 2 0 c.requires.shares).1 c.loop-at.at d (omega arith) (omega arith) in
    record { of = fresh.of; idle = fresh.idle; two = low.0 }

pub split_at-requires-clause-spare : goal.split_at-requires-clause-spare
split_at-requires-clause-spare c =
    let all = subst (All (IsSpare c.args.floor.now c.args.room)) c.in-Some.ensures.items c.loop-at.invariant.spares in
    (all_front (IsSpare c.args.floor.now c.args.room) c.pop.new.self.items c.in-Some.spare all).1

pub loop-at-preserved : goal.loop-at-preserved
loop-at-preserved c =
    let floor = c.args.floor.now in
    let room = c.args.room in
    let crew = c.loop-at.crew.items in
    let later = c.split_at.new.crew.items in
    let at = c.loop-at.at in
    let known = first_known c.args.crew.now.items in
    let long = c.loop-at.invariant.long in
    let count = c.loop-at.invariant.count in
    let inside : at < length crew = omega (arith, long) in
    let all = subst (All (IsSpare floor room)) c.in-Some.ensures.items c.loop-at.invariant.spares in
    let parts = all_front (IsSpare floor room) c.pop.new.self.items c.in-Some.spare all in
    let split : IsSplitAt room at false crew later = c.in_ok-split_at.ensures in
    let longer = split_long room at false crew later split in
    let popped : length c.loop-at.spares.items ≡ length c.pop.new.self.items + 1 = ap length c.in-Some.ensures.items ∙ length-append c.pop.new.self.items (c.in-Some.spare ∷ []) in
    let two : (d : SeatValue) → 2 ≤ (get_or crew at d).view.share = λ d. ((c.loop-at.invariant.halves 2 0 c.requires.shares).1 at d (omega arith) (omega arith)).0 in
    record {
      crew = split_keeps floor room known (first_log c.args.crew.now.items) (total_of c.args.crew.now.items) false crew later at c.loop-at.invariant.crew inside two split;
      spares = parts.0;
      long = omega (arith, longer, long);
      count = omega (arith, longer, popped, count);
      capacity = c.in-Some.ensures.capacity ∙ c.loop-at.invariant.capacity;
      halves = λ share allowance low.
          let before = c.loop-at.invariant.halves share allowance low in
          level_keeps share allowance room at (length c.args.crew.now.items) false crew later (omega arith) (omega (arith, long)) split before.0 before.1;
    }

pub returns-clause-crew : goal.returns-clause-crew
returns-clause-crew c = c.loop-at.invariant.crew

pub returns-clause-halves : goal.returns-clause-halves
returns-clause-halves c = λ share allowance all. (c.loop-at.invariant.halves share allowance all).0

pub returns-clause-grown : goal.returns-clause-grown
returns-clause-grown c = let long = c.loop-at.invariant.long in inr (omega (arith, long))
