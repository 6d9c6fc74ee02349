use Rattle.std.proofs.Common.{take}
use Rattle.std.specs.Prelude.{flat_map}
use Rattle.sl_codes.specs.Printing.{KeepsSink, Prints}
use Rattle.sl_codes.specs.RecordText.{text_of_record}
use Rattle.sl_amend.specs.Tables.{pool_records}
use Rattle.sl_amend.proofs.writing.print_pools.Given as goal

abbrev pub invariant-loop-number : goal.invariant-loop-number
invariant-loop-number g l =
    KeepsSink g.O.Sink.output l.fn.printer l.printer ×
    Prints g.O.Sink.output l.fn.printer l.printer (flat_map text_of_record (take l.number (pool_records l.named)))
