use Rattle.std.proofs.Common.{◌∙◌, ◌++◌, ap, sym, refl, append_assoc}
use Rattle.std.specs.Prelude.{flat_map}
use Rattle.std.proofs.lemmas.Result.{err_from_is_err_and}
use Rattle.sl_codes.specs.RecordText.{text_of_record}
use Rattle.sl_codes.proofs.Printing.{keeps_on, prints_on, breaks_first, breaks_on, last_printed, last_broken}
use Rattle.sl_doc.specs.ResultText.{limit_records, admit_records, raise_records}
use Rattle.sl_doc.proofs.RecordTexts.{three_texts}
use Rattle.sl_doc.proofs.printing.print_content.Goals as goal

pub returns-in_err-print_limits-clause-broken : goal.returns-in_err-print_limits-clause-broken
returns-in_err-print_limits-clause-broken g c =
    let n = c.args.named.now in
    let doc = c.args.doc.now in
    let limits = flat_map text_of_record (limit_records n doc) in
    let admits = flat_map text_of_record (admit_records n doc) in
    let raises = flat_map text_of_record (raise_records n doc) in
    let error = err_from_is_err_and c.from_residual.result c.from_residual.ensures.1 in
    rw (error.1, error.2) (breaks_first g.O.Sink.output c.args.printer.now c.print_limits.new.printer limits (admits ++ raises) _ c.in_err-print_limits.field-0.0
    c.in_err-print_limits.ensures.broken (three_texts (limit_records n doc) (admit_records n doc) (raise_records n doc)))

pub returns-in_err-print_admits-clause-broken : goal.returns-in_err-print_admits-clause-broken
returns-in_err-print_admits-clause-broken g c =
    let n = c.args.named.now in
    let doc = c.args.doc.now in
    let limits = flat_map text_of_record (limit_records n doc) in
    let admits = flat_map text_of_record (admit_records n doc) in
    let raises = flat_map text_of_record (raise_records n doc) in
    let error = err_from_is_err_and c.from_residual-in_err-print_admits.result c.from_residual-in_err-print_admits.ensures.1 in
    let later = breaks_first g.O.Sink.output c.print_limits.new.printer c.print_admits.new.printer admits raises (admits ++ raises) c.in_err-print_admits.field-0.0 c.in_err-print_admits.ensures.broken refl in
    rw (error.1, error.2) (breaks_on g.O.Sink.output c.args.printer.now c.print_limits.new.printer c.print_admits.new.printer limits (admits ++ raises) _ c.in_err-print_admits.field-0.0
    c.print_limits.ensures.keeps c.in_ok-print_limits.ensures.text later (three_texts (limit_records n doc) (admit_records n doc) (raise_records n doc)))

pub returns-clause-text : goal.returns-clause-text
returns-clause-text g c =
    let n = c.args.named.now in
    let doc = c.args.doc.now in
    let limits = flat_map text_of_record (limit_records n doc) in
    let admits = flat_map text_of_record (admit_records n doc) in
    let raises = flat_map text_of_record (raise_records n doc) in
    let third = rw (c.deref.ensures.value ∙ ap (λ d. d.raises) c.doc.view_is) at c.print_raises.ensures.text in
    let first = prints_on g.O.Sink.output c.args.printer.now c.print_limits.new.printer c.print_admits.new.printer limits admits (limits ++ admits) c.in_ok-print_limits.ensures.text c.in_ok-print_admits.ensures.text refl in
    last_printed g.O.Sink.output c.print_raises.result c.args.printer.now c.print_admits.new.printer c.print_raises.new.printer (limits ++ admits) raises _ first
    (three_texts (limit_records n doc) (admit_records n doc) (raise_records n doc) ∙ sym (append_assoc limits admits raises)) third

pub returns-clause-broken : goal.returns-clause-broken
returns-clause-broken g c =
    let n = c.args.named.now in
    let doc = c.args.doc.now in
    let limits = flat_map text_of_record (limit_records n doc) in
    let admits = flat_map text_of_record (admit_records n doc) in
    let raises = flat_map text_of_record (raise_records n doc) in
    let third = rw (c.deref.ensures.value ∙ ap (λ d. d.raises) c.doc.view_is) at c.print_raises.ensures.broken in
    let first = prints_on g.O.Sink.output c.args.printer.now c.print_limits.new.printer c.print_admits.new.printer limits admits (limits ++ admits) c.in_ok-print_limits.ensures.text c.in_ok-print_admits.ensures.text refl in
    let keeps = keeps_on g.O.Sink.output c.args.printer.now c.print_limits.new.printer c.print_admits.new.printer c.print_limits.ensures.keeps c.print_admits.ensures.keeps in
    last_broken g.O.Sink.output c.print_raises.result c.args.printer.now c.print_admits.new.printer c.print_raises.new.printer (limits ++ admits) raises _ keeps first
    (three_texts (limit_records n doc) (admit_records n doc) (raise_records n doc) ∙ sym (append_assoc limits admits raises)) third
