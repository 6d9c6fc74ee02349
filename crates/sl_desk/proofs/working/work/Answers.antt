use Rattle.std.proofs.Common.{length, ap, ◌∙◌, subst, arith}
use Rattle.sl_types.specs.Market.{Market}
use Rattle.sl_desk.specs.Desks.{IsFor}
use Rattle.sl_desk.specs.Scanning.{number_after}
use Rattle.sl_desk.specs.Settling.{Claims, steps_of}
use Rattle.sl_desk.proofs.Turning.{turn_falls, goes_on, turns_fit}
use Rattle.sl_desk.proofs.working.work.Goals as goal

pub overflow_add-turn : goal.overflow_add-turn
overflow_add-turn g c =
    let few = c.pools-pools.ensures.few in let count = c.pools-pools.ensures.count in let same = ap (λ (m : Market). length m.pools) c.requires.instance in
    let fits = turns_fit c.args.seat.now.view c.args.floor.now.market c.fit.ensures (omega (arith, few, count, same)) in
    let turns = c.loop-pool.invariant.turns in omega (arith, fits, turns)

pub loop-pool-smaller : goal.loop-pool-smaller
loop-pool-smaller g c = turn_falls c.args.floor.now.market c.loop-pool.seat c.take_turn.new.seat c.in-Some.pool.0 c.fit-in-Some.ensures c.in-Some.ensures.left c.take_turn.ensures.settles

pub loop-pool-preserved : goal.loop-pool-preserved
loop-pool-preserved g c =
    let turn = c.take_turn in
    let claims = subst (λ (m : Market). Claims m c.in-Some.pool.0 c.loop-pool.seat.view turn.new.seat.view) c.requires.instance turn.ensures.claim in
    let for = subst (λ (m : Market). IsFor m turn.new.desk) c.requires.instance turn.ensures.desk in
    let next = turn.ensures.cursor ∙ ap (λ (m : Market). number_after (length m.pools) c.in-Some.pool.0) c.requires.instance in
    goes_on c.args.floor.now c.args.seat.now c.loop-pool.seat turn.new.seat c.args.desk.now.cursor c.loop-pool.desk turn.new.desk c.loop-pool.turn c.in-Some.pool.0
    (steps_of c.args.instance.now c.in-Some.pool.0) c.loop-pool.invariant c.fit-in-Some.ensures c.in-Some.ensures.left turn.ensures.seat turn.ensures.idle turn.ensures.settles turn.ensures.steps claims for next
