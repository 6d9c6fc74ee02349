use Rattle.sl_io.proofs.Writing.{AppendsPart-whole}
use Rattle.sl_io.proofs.out_sink.write_whole.Goals as goal

pub returns-in-Err-clause-part : goal.returns-in-Err-clause-part
returns-in-Err-clause-part g c = AppendsPart-whole _ _ _ _ c.in_ok-write_pieces.ensures.bytes c.in-Err.ensures.bytes
