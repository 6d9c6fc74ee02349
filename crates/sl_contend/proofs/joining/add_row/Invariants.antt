use Rattle.std.proofs.Common.{◌≡◌, ◌++◌, drop}
use Rattle.sl_contend.specs.Pieces.{joined}
use Rattle.sl_contend.proofs.joining.add_row.Given as goal

abbrev pub invariant-loop-piece : goal.invariant-loop-piece
invariant-loop-piece g l = record {
  items : l.rows.items.items ++ joined (drop l.piece-index l.pieces) l.pool.0 ≡ l.fn.rows.items.items ++ joined l.pieces l.pool.0;
  starts : l.rows.starts.items ≡ l.fn.rows.starts.items;
}
