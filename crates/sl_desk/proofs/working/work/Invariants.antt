use Rattle.sl_desk.specs.Working.{turns_left, IsAtWork}
use Rattle.sl_desk.proofs.working.work.Given as goal

abbrev pub invariant-loop-pool : goal.invariant-loop-pool
invariant-loop-pool g l = IsAtWork l.fn.floor l.fn.seat l.seat l.fn.desk.cursor l.desk l.turn

abbrev pub decreases-loop-pool : goal.decreases-loop-pool
decreases-loop-pool g l = turns_left l.seat.view
