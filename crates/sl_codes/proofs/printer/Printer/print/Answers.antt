use Rattle.std.proofs.Common.{[], sym, append-nil}
use Rattle.sl_codes.specs.RecordText.{text_of_record, record_of}
use Rattle.sl_codes.proofs.Printing.{last_broken}
use Rattle.sl_codes.proofs.printer.Printer.print.Goals as goal

pub returns-clause-broken : goal.returns-clause-broken
returns-clause-broken g c =
    let text = text_of_record (record_of c.args.fields.now) in
    last_broken g.O.Sink.output c.flush.result c.args.self.now c.hold.new.self c.flush.new.self text [] text c.hold.ensures.keeps c.in_ok-hold.ensures.text
    (sym (append-nil text)) c.flush.ensures.broken
