use Rattle.std.proofs.Common.{rules}
use Rattle.std.proofs.lemmas.Result.{err_from_is_err_and}
use Rattle.sl_codes.proofs.Printing.{takes_part, takes_text, takes_flushed}
use Rattle.sl_doc.specs.ResultText.{result_text}
use Rattle.sl_doc.proofs.printing.doc_text.Goals as goal

pub returns-in_err-print_doc-clause-part : goal.returns-in_err-print_doc-clause-part
returns-in_err-print_doc-clause-part g c =
    let error = err_from_is_err_and c.from_residual.result c.from_residual.ensures.1 in
    let part =
    takes_part g.O.Sink.output _ c.new-printer.result c.print_doc.new.printer (result_text c.args.named.now c.args.rule c.args.doc.now) c.in_err-print_doc.field-0.0
    c.new-printer.ensures c.in_err-print_doc.ensures.broken in
    rw error.1 (search rules)

pub returns-clause-text : goal.returns-clause-text
returns-clause-text g c =
    let text =
    takes_text g.O.Sink.output c.flush.result _ c.new-printer.result c.print_doc.new.printer c.flush.new.self (result_text c.args.named.now c.args.rule c.args.doc.now)
    c.new-printer.ensures c.in_ok-print_doc.ensures.text c.flush.ensures.nothing_held c.flush.ensures.text in
    search rules

pub returns-clause-part : goal.returns-clause-part
returns-clause-part g c =
    let part =
    takes_flushed g.O.Sink.output c.flush.result _ c.new-printer.result c.print_doc.new.printer c.flush.new.self (result_text c.args.named.now c.args.rule c.args.doc.now)
    c.new-printer.ensures c.print_doc.ensures.keeps c.in_ok-print_doc.ensures.text c.flush.ensures.broken in
    search rules
