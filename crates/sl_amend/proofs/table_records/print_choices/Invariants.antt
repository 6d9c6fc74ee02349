use Rattle.std.proofs.Common.{take}
use Rattle.std.specs.Prelude.{flat_map}
use Rattle.sl_codes.specs.Printing.{KeepsSink, Prints}
use Rattle.sl_codes.specs.RecordText.{text_of_record}
use Rattle.sl_amend.specs.Tables.{own_records}
use Rattle.sl_amend.proofs.table_records.print_choices.Given as goal

abbrev pub invariant-loop-choice : goal.invariant-loop-choice
invariant-loop-choice g l =
    KeepsSink g.O.Sink.output l.fn.printer l.printer ×
    Prints g.O.Sink.output l.fn.printer l.printer (flat_map text_of_record (take l.choice-index (own_records l.progs l.code l.choices)))
