use Rattle.std.proofs.Common.{take}
use Rattle.std.specs.Prelude.{flat_map}
use Rattle.sl_types.specs.Market.{pool_numbers}
use Rattle.sl_codes.specs.Printing.{KeepsSink, Prints}
use Rattle.sl_doc.specs.SeenText.{seen_line}
use Rattle.sl_doc.proofs.seen.print_look.Given as goal

abbrev pub invariant-loop-number : goal.invariant-loop-number
invariant-loop-number g l =
    KeepsSink g.O.Sink.output l.fn.printer l.printer ×
    Prints g.O.Sink.output l.fn.printer l.printer (flat_map (seen_line l.named l.look l.before l.now) (take l.number (pool_numbers l.named.market)))
