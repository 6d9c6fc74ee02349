use Rattle.sl_watch.proofs.Looked.{HasLooked}
use Rattle.sl_watch.proofs.looking.look.Given as goal

abbrev pub invariant-loop-pool : goal.invariant-loop-pool
invariant-loop-pool l = HasLooked l.floor l.fn.seat l.seat l.out l.pool
