use Rattle.std.proofs.Common.{take}
use Rattle.sl_amend.specs.Flags.{is_listed, AreFlagged, HasGrown}
use Rattle.sl_amend.proofs.marking.flag_each.Given as goal

abbrev pub invariant-loop-pool : goal.invariant-loop-pool
invariant-loop-pool l = record {
  flagged : AreFlagged l.flags (take l.pool-index l.pools);
  grown : HasGrown l.fn.flags l.flags l.fn.todo.items l.todo.items (is_listed l.pools);
}
