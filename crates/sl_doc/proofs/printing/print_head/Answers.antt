use Rattle.std.proofs.lemmas.Result.{err_from_is_err_and}
use Rattle.sl_codes.specs.RecordText.{text_of_record}
use Rattle.sl_codes.proofs.Printing.{breaks_first, last_printed, last_broken}
use Rattle.sl_doc.specs.ResultText.{version_record, rule_record}
use Rattle.sl_doc.proofs.RecordTexts.{two_texts}
use Rattle.sl_doc.proofs.printing.print_head.Goals as goal

pub returns-in_err-print-clause-broken : goal.returns-in_err-print-clause-broken
returns-in_err-print-clause-broken g c =
    let error = err_from_is_err_and c.from_residual.result c.from_residual.ensures.1 in
    rw (error.1, error.2) (breaks_first g.O.Sink.output c.args.printer.now c.print.new.self (text_of_record version_record) (text_of_record (rule_record c.args.rule)) _ c.in_err-print.field-0.0
    c.in_err-print.ensures.broken (two_texts version_record (rule_record c.args.rule)))

pub returns-clause-text : goal.returns-clause-text
returns-clause-text g c =
    let second = rw c.letter.ensures at c.print-2.ensures.text in
    last_printed g.O.Sink.output c.print-2.result c.args.printer.now c.print.new.self c.print-2.new.self (text_of_record version_record) (text_of_record (rule_record c.args.rule)) _
    c.in_ok-print.ensures.text (two_texts version_record (rule_record c.args.rule)) second

pub returns-clause-broken : goal.returns-clause-broken
returns-clause-broken g c =
    let second = rw c.letter.ensures at c.print-2.ensures.broken in
    last_broken g.O.Sink.output c.print-2.result c.args.printer.now c.print.new.self c.print-2.new.self (text_of_record version_record) (text_of_record (rule_record c.args.rule)) _
    c.print.ensures.keeps c.in_ok-print.ensures.text (two_texts version_record (rule_record c.args.rule)) second
