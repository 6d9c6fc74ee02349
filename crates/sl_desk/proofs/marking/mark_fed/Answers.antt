use Rattle.std.proofs.Common.{arith}
use Rattle.sl_desk.proofs.Owed.{marks_none, may_here, next_marked, whole_marks, all_marked}
use Rattle.sl_desk.proofs.marking.mark_fed.Goals as goal

pub loop-at-init : goal.loop-at-init
loop-at-init c = marks_none c.args.floor.now.market c.args.pool c.args.seat.now c.requires.sized c.requires.phase c.requires.owed

pub mark-requires-clause-may : goal.mark-requires-clause-may
mark-requires-clause-may c = may_here c.args.floor.now c.args.pool c.args.seat.now c.loop-at.seat c.loop-at.at c.args.fed.now c.requires.fed c.loop-at-test.true c.loop-at.invariant

pub loop-at-preserved : goal.loop-at-preserved
loop-at-preserved c = next_marked c.args.floor.now c.args.pool c.args.seat.now c.loop-at.seat c.loop-at.at c.args.fed.now c.requires.fed c.loop-at-test.true c.loop-at.invariant c.mark.new.seat c.mark.ensures

pub returns-clause-idle : goal.returns-clause-idle
returns-clause-idle c =
    all_marked c.args.floor.now.market c.args.pool c.args.seat.now c.loop-at.seat
    (whole_marks c.args.floor.now.market c.args.pool c.args.seat.now c.loop-at.seat c.loop-at.at c.args.fed.now c.requires.fed (omega arith) c.loop-at.invariant)
