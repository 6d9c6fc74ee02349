use Rattle.std.proofs.Common.{◌≡◌, ◌++◌, drop}
use Rattle.std.specs.Prelude.{flat_map}
use Rattle.sl_gen.proofs.lists.join_lists.Given as goal

abbrev pub invariant-loop-piece : goal.invariant-loop-piece
invariant-loop-piece l = l.lists ++ flat_map (λ piece. piece) (drop l.piece-index l.pieces) ≡ flat_map (λ piece. piece) l.pieces
