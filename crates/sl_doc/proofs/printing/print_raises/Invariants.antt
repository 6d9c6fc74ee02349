use Rattle.std.proofs.Common.{map, take}
use Rattle.std.specs.Prelude.{flat_map}
use Rattle.sl_codes.specs.Printing.{KeepsSink, Prints}
use Rattle.sl_codes.specs.RecordText.{text_of_record}
use Rattle.sl_doc.specs.ResultText.{raise_record}
use Rattle.sl_doc.proofs.printing.print_raises.Given as goal

abbrev pub invariant-loop-raise : goal.invariant-loop-raise
invariant-loop-raise g l =
    KeepsSink g.O.Sink.output l.fn.printer l.printer ×
    Prints g.O.Sink.output l.fn.printer l.printer (flat_map text_of_record (take l.raise-index (map (raise_record l.named) l.raises)))
