use Rattle.std.proofs.Common.{take}
use Rattle.std.specs.Prelude.{flat_map, zip}
use Rattle.sl_codes.specs.Printing.{KeepsSink, Prints}
use Rattle.sl_codes.specs.RecordText.{text_of_record}
use Rattle.sl_amend.specs.Tables.{own_records}
use Rattle.sl_amend.proofs.writing.print_applications.Given as goal

abbrev pub invariant-loop-number : goal.invariant-loop-number
invariant-loop-number g l =
    KeepsSink g.O.Sink.output l.fn.printer l.printer ×
    Prints g.O.Sink.output l.fn.printer l.printer
    (flat_map text_of_record (flat_map (λ a. own_records l.named.prog_codes a.0 a.1) (take l.number (zip l.named.app_codes l.named.market.lists))))
