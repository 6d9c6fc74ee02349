use Rattle.std.proofs.Common.{◌≡◌, ℕ, All, length, subst, arith, inr, refl, ◌∙◌}
use Rattle.sl_floor.specs.declared.shares.TheConstants.{WHOLE_SHARE}
use Rattle.sl_team.specs.Rounds.{halved}
use Rattle.sl_team.specs.Seats.{IsFresh, HasAtLeast}
use Rattle.sl_team.specs.Crew.{first_known, first_log, total_of}
use Rattle.sl_team.proofs.Levels.{some_crew, fresh_again, fresh_on, alone_has, may_halve, next_level, next_grown, all_split}
use Rattle.sl_team.proofs.splitting.split_all.Goals as goal

pub loop-init : goal.loop-init
loop-init c =
    let crew = c.args.crew.now.items in
    let one = c.requires.one in
    record {
      crew = c.requires.crew;
      spares = c.requires.spares;
      count = omega (arith, one);
      grown = inr (omega (arith, one));
      capacity = refl;
      low = alone_has (IsFresh c.args.floor.now c.args.room (first_known crew)) (first_log crew) (total_of crew) crew one c.requires.crew;
    }

pub split_each-requires-clause-crew : goal.split_each-requires-clause-crew
split_each-requires-clause-crew c = fresh_again c.args.floor.now c.args.room c.args.crew.now.items c.loop.crew.items c.loop.invariant.crew

pub split_each-requires-clause-shares : goal.split_each-requires-clause-shares
split_each-requires-clause-shares c = may_halve c.loop.counter (total_of c.args.crew.now.items) c.loop.crew.items (omega arith) c.loop.invariant.low

pub split_each-requires-clause-spares : goal.split_each-requires-clause-spares
split_each-requires-clause-spares c = c.loop.invariant.spares

pub loop-preserved : goal.loop-preserved
loop-preserved c =
    let total = total_of c.args.crew.now.items in
    let crew = c.loop.crew.items in
    let later = c.split_each.new.crew.items in
    let count = c.loop.invariant.count in
    let more = c.in_ok-split_each.ensures.count in
    record {
      crew = fresh_on c.args.floor.now c.args.room c.args.crew.now.items crew later c.loop.invariant.crew c.in_ok-split_each.ensures.crew;
      spares = c.in_ok-split_each.ensures.spares;
      count = omega (arith, count, more);
      grown = next_grown c.loop.counter (length crew) (length c.loop.spares.items) (length later) (length c.split_each.new.spares.items) (some_crew _ crew c.loop.invariant.crew.logs) more c.loop.invariant.grown c.in_ok-split_each.ensures.grown;
      capacity = c.in_ok-split_each.ensures.capacity ∙ c.loop.invariant.capacity;
      low = next_level c.loop.counter total later (c.in_ok-split_each.ensures.halves (halved c.loop.counter WHOLE_SHARE) (halved c.loop.counter total) c.loop.invariant.low);
    }

pub returns-clause-crew : goal.returns-clause-crew
returns-clause-crew c = c.loop.invariant.crew

pub returns-clause-count : goal.returns-clause-count
returns-clause-count c =
    let count = c.loop.invariant.count in
    let none = all_split c.loop.counter (length c.loop.crew.items) (length c.loop.spares.items) (length c.args.spares.now.items) (omega arith) count c.requires.few c.loop.invariant.grown in
    omega (arith, count, none)

pub returns-clause-spares : goal.returns-clause-spares
returns-clause-spares c = all_split c.loop.counter (length c.loop.crew.items) (length c.loop.spares.items) (length c.args.spares.now.items) (omega arith) c.loop.invariant.count c.requires.few c.loop.invariant.grown

pub returns-clause-allowances : goal.returns-clause-allowances
returns-clause-allowances c =
    let is : c.loop.counter ≡ 7 = omega arith in
    subst (λ (k : ℕ). All (HasAtLeast (halved k WHOLE_SHARE) (halved k (total_of c.args.crew.now.items))) c.loop.crew.items) is c.loop.invariant.low
