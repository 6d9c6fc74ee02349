use Rattle.std.proofs.Common.{◌+◌, length}
use Rattle.sl_amend.specs.Flags.{IsSpreading, count_unflagged}
use Rattle.sl_amend.proofs.marking.spread.Given as goal

abbrev pub invariant-loop-pool : goal.invariant-loop-pool
invariant-loop-pool l = IsSpreading l.old l.new l.fn.flags l.flags l.todo.items

abbrev pub decreases-loop-pool : goal.decreases-loop-pool
decreases-loop-pool l = count_unflagged l.flags + length l.todo.items
