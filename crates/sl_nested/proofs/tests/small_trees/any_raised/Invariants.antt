use Rattle.sl_contend.specs.Counters.{HasRoomFor}
use Rattle.sl_nested.proofs.tests.small_trees.any_raised.Given as goal

abbrev pub invariant-loop-number : goal.invariant-loop-number
invariant-loop-number g l = HasRoomFor l.instance l.scratch
