use Rattle.std.proofs.Common.{rules}
use Rattle.sl_codes.specs.RecordText.{text_of_record, record_of}
use Rattle.sl_codes.proofs.Printing.{takes_flushed}
use Rattle.sl_codes.proofs.printer.put_record.Goals as goal

pub returns-clause-part : goal.returns-clause-part
returns-clause-part g c =
    let part =
    takes_flushed g.O.Sink.output c.flush.result _ c.new-printer.result c.print.new.self c.flush.new.self (text_of_record (record_of c.args.fields.now)) c.new-printer.ensures
    c.print.ensures.keeps c.in_ok-print.ensures.text c.flush.ensures.broken in
    search rules
