use Rattle.std.proofs.Common.{rules}
use Rattle.std.proofs.lemmas.Result.{err_from_is_err_and}
use Rattle.sl_codes.proofs.Printing.{takes_part, takes_text, takes_flushed}
use Rattle.sl_amend.specs.Tables.{text_of_table}
use Rattle.sl_amend.proofs.writing.table_text.Goals as goal

pub returns-in_err-print_table-clause-part : goal.returns-in_err-print_table-clause-part
returns-in_err-print_table-clause-part g c =
    let error = err_from_is_err_and c.from_residual.result c.from_residual.ensures.1 in
    let part =
    takes_part g.O.Sink.output _ c.new-printer.result c.print_table.new.printer (text_of_table c.args.named.now c.args.table) c.in_err-print_table.field-0.0
    c.new-printer.ensures c.in_err-print_table.ensures.broken in
    rw error.1 (search rules)

pub returns-clause-text : goal.returns-clause-text
returns-clause-text g c =
    let text =
    takes_text g.O.Sink.output c.flush.result _ c.new-printer.result c.print_table.new.printer c.flush.new.self (text_of_table c.args.named.now c.args.table)
    c.new-printer.ensures c.in_ok-print_table.ensures.text c.flush.ensures.nothing_held c.flush.ensures.text in
    search rules

pub returns-clause-part : goal.returns-clause-part
returns-clause-part g c =
    let part =
    takes_flushed g.O.Sink.output c.flush.result _ c.new-printer.result c.print_table.new.printer c.flush.new.self (text_of_table c.args.named.now c.args.table)
    c.new-printer.ensures c.print_table.ensures.keeps c.in_ok-print_table.ensures.text c.flush.ensures.broken in
    search rules
