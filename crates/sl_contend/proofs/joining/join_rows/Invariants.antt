use Rattle.sl_contend.specs.Pieces.{joined}
use Rattle.sl_contend.proofs.RowByRow.{AreFirst}
use Rattle.sl_contend.proofs.joining.join_rows.Given as goal

abbrev pub invariant-loop-number : goal.invariant-loop-number
invariant-loop-number g l = AreFirst (joined l.pieces) l.number l.rows.items.items l.rows.starts.items
