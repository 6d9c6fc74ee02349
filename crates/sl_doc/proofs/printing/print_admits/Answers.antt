use Rattle.std.proofs.Common.{◌≤◌, ◌<◌, arith, length, rules}
use Rattle.std.proofs.lemmas.Result.{err_from_is_err_and}
use Rattle.sl_codes.proofs.Printing.{keeps_none, keeps_on, prints_nothing, prints_more, breaks_more, prints_all}
use Rattle.sl_doc.specs.ResultText.{admit_records, admit_record}
use Rattle.sl_doc.proofs.Records.{admits_length, admit_at}
use Rattle.sl_doc.proofs.printing.print_admits.Goals as goal

pub loop-number-init : goal.loop-number-init
loop-number-init g c = (keeps_none g.O.Sink.output c.args.printer.now, prints_nothing g.O.Sink.output c.args.printer.now)

pub returns-in_err-print_admit-clause-broken : goal.returns-in_err-print_admit-clause-broken
returns-in_err-print_admit-clause-broken g c =
    let n = c.args.named.now in
    let doc = c.args.doc.now in
    let k = c.loop-number.number in
    let lt : k < length n.market.lists = search rules in
    let error = err_from_is_err_and c.from_residual.result c.from_residual.ensures.1 in
    rw (error.1, error.2) (breaks_more g.O.Sink.output c.args.printer.now c.loop-number.printer c.print_admit.new.printer (admit_records n doc) k (admit_record n doc k) c.in_err-print_admit.field-0.0
    (omega (arith, lt, admits_length n doc)) (admit_at n doc k lt) c.loop-number.invariant.0 c.loop-number.invariant.1 c.in_err-print_admit.ensures.broken)

pub loop-number-preserved : goal.loop-number-preserved
loop-number-preserved g c =
    let n = c.args.named.now in
    let doc = c.args.doc.now in
    let k = c.loop-number.number in
    let lt : k < length n.market.lists = search rules in (
      keeps_on g.O.Sink.output c.args.printer.now c.loop-number.printer c.print_admit.new.printer c.loop-number.invariant.0 c.print_admit.ensures.keeps,
      prints_more g.O.Sink.output c.args.printer.now c.loop-number.printer c.print_admit.new.printer (admit_records n doc) k (admit_record n doc k)
          (omega (arith, lt, admits_length n doc)) (admit_at n doc k lt) c.loop-number.invariant.1 c.in_ok-print_admit.ensures.text,
    )

pub returns-clause-text : goal.returns-clause-text
returns-clause-text g c =
    let n = c.args.named.now in
    let doc = c.args.doc.now in
    let k = c.loop-number.number in
    let past : length n.market.lists ≤ k = search rules in
    prints_all g.O.Sink.output c.args.printer.now c.loop-number.printer (admit_records n doc) k (omega (arith, past, admits_length n doc)) c.loop-number.invariant.1
