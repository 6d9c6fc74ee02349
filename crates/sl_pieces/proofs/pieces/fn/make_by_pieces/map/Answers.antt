use Rattle.std.proofs.Common.{ℕ, ◌+◌, arith}
use Rattle.sl_pieces.proofs.Joined.{piece_rises, piece_within}
use Rattle.sl_pieces.proofs.pieces.fn.make_by_pieces.map.Goals as goal

pub make-requires : goal.make-requires
make-requires g c =
    let count : ℕ = c.captures.count in
    let piece : ℕ = c.args.piece in
    rw (c.piece_start.ensures, c.piece_start-2.ensures) (c.requires.2 _ _ (piece_rises count piece) (piece_within count (piece + 1) (omega (arith, c.requires.0))))
