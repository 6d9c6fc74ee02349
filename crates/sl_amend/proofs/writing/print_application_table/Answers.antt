use Rattle.std.specs.Prelude.{flat_map}
use Rattle.std.proofs.lemmas.List.Concat.{flat_map-cons}
use Rattle.std.proofs.lemmas.Result.{err_from_is_err_and}
use Rattle.sl_codes.specs.RecordText.{text_of_record}
use Rattle.sl_codes.proofs.Printing.{breaks_first, last_printed, last_broken}
use Rattle.sl_amend.specs.Tables.{application_header, application_records}
use Rattle.sl_amend.proofs.writing.print_application_table.Goals as goal

pub returns-in_err-print_application_header-clause-broken : goal.returns-in_err-print_application_header-clause-broken
returns-in_err-print_application_header-clause-broken g c =
    let rows = application_records c.args.named.now in
    let error = err_from_is_err_and c.from_residual.result c.from_residual.ensures.1 in
    rw (error.1, error.2) (breaks_first g.O.Sink.output c.args.printer.now c.print_application_header.new.printer (text_of_record application_header) (flat_map text_of_record rows) _ c.in_err-print_application_header.field-0.0
    c.in_err-print_application_header.ensures.broken (flat_map-cons text_of_record application_header rows))

pub returns-clause-text : goal.returns-clause-text
returns-clause-text g c =
    let rows = application_records c.args.named.now in
    last_printed g.O.Sink.output c.print_applications.result c.args.printer.now c.print_application_header.new.printer c.print_applications.new.printer (text_of_record application_header) (flat_map text_of_record rows) _
    c.in_ok-print_application_header.ensures.text (flat_map-cons text_of_record application_header rows) c.print_applications.ensures.text

pub returns-clause-broken : goal.returns-clause-broken
returns-clause-broken g c =
    let rows = application_records c.args.named.now in
    last_broken g.O.Sink.output c.print_applications.result c.args.printer.now c.print_application_header.new.printer c.print_applications.new.printer (text_of_record application_header) (flat_map text_of_record rows) _
    c.print_application_header.ensures.keeps c.in_ok-print_application_header.ensures.text (flat_map-cons text_of_record application_header rows) c.print_applications.ensures.broken
