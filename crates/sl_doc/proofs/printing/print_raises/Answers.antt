use Rattle.std.proofs.Common.{◌<◌, arith, length, get_or, map, rules}
use Rattle.sl_types.specs.declared.kinds.Raise.{Raise}
use Rattle.std.proofs.lemmas.Result.{err_from_is_err_and}
use Rattle.sl_codes.proofs.Printing.{keeps_none, keeps_on, prints_nothing, prints_more, breaks_more}
use Rattle.sl_doc.specs.ResultText.{raise_record}
use Rattle.sl_doc.proofs.Records.{raises_length, raise_at}
use Rattle.sl_doc.proofs.printing.print_raises.Goals as goal

abbrev none : Raise
none = record { pool = record { 0 = 0 }; limit = 0 }

pub loop-raise-init : goal.loop-raise-init
loop-raise-init g c = (keeps_none g.O.Sink.output c.args.printer.now, prints_nothing g.O.Sink.output c.args.printer.now)

pub returns-in_err-print_raise-clause-broken : goal.returns-in_err-print_raise-clause-broken
returns-in_err-print_raise-clause-broken g c =
    let n = c.args.named.now in
    let raises = c.args.raises.now in
    let k = c.loop-raise.raise-index in
    let lt : k < length raises = search rules in
    let error = err_from_is_err_and c.from_residual.result c.from_residual.ensures.1 in
    rw (error.1, error.2) (breaks_more g.O.Sink.output c.args.printer.now c.loop-raise.printer c.print_raise.new.printer (map (raise_record n) raises) k (raise_record n (get_or raises k none)) c.in_err-print_raise.field-0.0
    (omega (arith, lt, raises_length n raises)) (raise_at n raises k none lt) c.loop-raise.invariant.0 c.loop-raise.invariant.1 c.in_err-print_raise.ensures.broken)

pub loop-raise-preserved : goal.loop-raise-preserved
loop-raise-preserved g c =
    let n = c.args.named.now in
    let raises = c.args.raises.now in
    let k = c.loop-raise.raise-index in
    let lt : k < length raises = search rules in (
      keeps_on g.O.Sink.output c.args.printer.now c.loop-raise.printer c.print_raise.new.printer c.loop-raise.invariant.0 c.print_raise.ensures.keeps,
      prints_more g.O.Sink.output c.args.printer.now c.loop-raise.printer c.print_raise.new.printer (map (raise_record n) raises) k (raise_record n (get_or raises k none))
          (omega (arith, lt, raises_length n raises)) (raise_at n raises k none lt) c.loop-raise.invariant.1 c.in_ok-print_raise.ensures.text,
    )
