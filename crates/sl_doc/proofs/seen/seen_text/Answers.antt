use Rattle.std.proofs.Common.{rules}
use Rattle.std.proofs.lemmas.Result.{err_from_is_err_and}
use Rattle.sl_codes.proofs.Printing.{takes_part, takes_text, takes_flushed}
use Rattle.sl_doc.specs.SeenText.{seen_lines}
use Rattle.sl_doc.proofs.seen.seen_text.Goals as goal

pub returns-in_err-print_look-clause-part : goal.returns-in_err-print_look-clause-part
returns-in_err-print_look-clause-part g c =
    let error = err_from_is_err_and c.from_residual.result c.from_residual.ensures.1 in
    let part =
    takes_part g.O.Sink.output _ c.new-printer.result c.print_look.new.printer (seen_lines c.args.named.now c.args.look c.args.before.now c.args.now.now) c.in_err-print_look.field-0.0
    c.new-printer.ensures c.in_err-print_look.ensures.broken in
    rw error.1 (search rules)

pub returns-clause-text : goal.returns-clause-text
returns-clause-text g c =
    let text =
    takes_text g.O.Sink.output c.flush.result _ c.new-printer.result c.print_look.new.printer c.flush.new.self (seen_lines c.args.named.now c.args.look c.args.before.now c.args.now.now)
    c.new-printer.ensures c.in_ok-print_look.ensures.text c.flush.ensures.nothing_held c.flush.ensures.text in
    search rules

pub returns-clause-part : goal.returns-clause-part
returns-clause-part g c =
    let part =
    takes_flushed g.O.Sink.output c.flush.result _ c.new-printer.result c.print_look.new.printer c.flush.new.self (seen_lines c.args.named.now c.args.look c.args.before.now c.args.now.now)
    c.new-printer.ensures c.print_look.ensures.keeps c.in_ok-print_look.ensures.text c.flush.ensures.broken in
    search rules
