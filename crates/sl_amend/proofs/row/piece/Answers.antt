use Rattle.std.proofs.Common.{◌∙◌, sym, ap, get_or}
use Rattle.std.specs.Prelude.{slice_range}
use Rattle.sl_amend.proofs.Pieces.{piece_at}
use Rattle.sl_amend.proofs.row.piece.Goals as goal

pub returns : goal.returns
returns c =
    ap (λ from. slice_range c.args.bytes.now from (get_or c.args.ends.now c.args.k 0)) c.start_of-start.ensures
    ∙ sym (piece_at c.args.bytes.now 0 c.args.ends.now c.args.k c.requires.within)
