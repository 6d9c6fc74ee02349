use Rattle.std.proofs.Common.{arith}
use Rattle.sl_watch.proofs.Looked.{looks_more, looked, limits_are, passes_none}
use Rattle.sl_watch.proofs.looking.look.Goals as goal

pub loop-pool-preserved : goal.loop-pool-preserved
loop-pool-preserved c =
    let within = c.loop-pool-test.true in
    let long = c.loop-pool.invariant.long in
    looks_more c.args.floor.now c.args.seat.now c.requires.seat c.requires.idle c.loop-pool.seat c.loop-pool.out c.loop-pool.pool c.loop-pool.invariant c.limit_of.new.seat c.limit_of.result (omega (arith, within, long)) c.limit_of.ensures.seat
    c.limit_of.ensures.rises c.limit_of.ensures.top c.limit_of.ensures.low

pub returns-clause-looks : goal.returns-clause-looks
returns-clause-looks c = looked c.args.floor.now c.args.seat.now c.loop-pool.seat c.loop-pool.out c.loop-pool.pool (let long = c.loop-pool.invariant.long in omega (arith, long)) c.loop-pool.invariant

pub returns-clause-top : goal.returns-clause-top
returns-clause-top c = limits_are c.args.floor.now c.args.seat.now c.loop-pool.seat c.loop-pool.out c.loop-pool.pool (let long = c.loop-pool.invariant.long in omega (arith, long)) c.loop-pool.invariant

pub returns-clause-low : goal.returns-clause-low
returns-clause-low c = passes_none c.args.floor.now c.args.seat.now c.loop-pool.seat c.loop-pool.out c.loop-pool.pool (let long = c.loop-pool.invariant.long in omega (arith, long)) c.loop-pool.invariant
