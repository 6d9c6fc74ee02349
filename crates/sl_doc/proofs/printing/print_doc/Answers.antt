use Rattle.std.proofs.Common.{◌≡◌, ◌∙◌, ◌++◌, refl, sym, arith, append_assoc}
use Rattle.std.specs.Prelude.{flat_map, length}
use Rattle.std.proofs.lemmas.Result.{err_from_is_err_and}
use Rattle.sl_codes.specs.RecordText.{text_of_record}
use Rattle.sl_codes.proofs.Printing.{keeps_on, prints_on, breaks_first, breaks_on, last_printed, last_broken}
use Rattle.sl_doc.specs.ResultText.{head_records, content_records, body_records, end_record, result_text}
use Rattle.sl_doc.proofs.RecordTexts.{whole_texts}
use Rattle.sl_doc.proofs.printing.print_doc.Goals as goal

pub returns-in_err-print_head-clause-broken : goal.returns-in_err-print_head-clause-broken
returns-in_err-print_head-clause-broken g c =
    let n = c.args.named.now in
    let doc = c.args.doc.now in
    let rule = c.args.rule in
    let head = flat_map text_of_record (head_records rule) in
    let content = flat_map text_of_record (content_records n doc) in
    let last = end_record (length (body_records n rule doc)) in
    let error = err_from_is_err_and c.from_residual.result c.from_residual.ensures.1 in
    rw (error.1, error.2) (breaks_first g.O.Sink.output c.args.printer.now c.print_head.new.printer head (content ++ text_of_record last) (result_text n rule doc) c.in_err-print_head.field-0.0
    c.in_err-print_head.ensures.broken (whole_texts (head_records rule) (content_records n doc) last))

pub returns-in_err-print_content-clause-broken : goal.returns-in_err-print_content-clause-broken
returns-in_err-print_content-clause-broken g c =
    let n = c.args.named.now in
    let doc = c.args.doc.now in
    let rule = c.args.rule in
    let head = flat_map text_of_record (head_records rule) in
    let content = flat_map text_of_record (content_records n doc) in
    let last = end_record (length (body_records n rule doc)) in
    let error = err_from_is_err_and c.from_residual-in_err-print_content.result c.from_residual-in_err-print_content.ensures.1 in
    let later = breaks_first g.O.Sink.output c.print_head.new.printer c.print_content.new.printer content (text_of_record last) (content ++ text_of_record last) c.in_err-print_content.field-0.0 c.in_err-print_content.ensures.broken refl in
    rw (error.1, error.2) (breaks_on g.O.Sink.output c.args.printer.now c.print_head.new.printer c.print_content.new.printer head (content ++ text_of_record last) (result_text n rule doc) c.in_err-print_content.field-0.0
    c.print_head.ensures.keeps c.in_ok-print_head.ensures.text later (whole_texts (head_records rule) (content_records n doc) last))

pub returns-clause-text : goal.returns-clause-text
returns-clause-text g c =
    let n = c.args.named.now in
    let doc = c.args.doc.now in
    let rule = c.args.rule in
    let head = flat_map text_of_record (head_records rule) in
    let content = flat_map text_of_record (content_records n doc) in
    let last = end_record (length (body_records n rule doc)) in
    let first = prints_on g.O.Sink.output c.args.printer.now c.print_head.new.printer c.print_content.new.printer head content (head ++ content) c.in_ok-print_head.ensures.text c.in_ok-print_content.ensures.text refl in
    let count : c.record_count.result ≡ length (body_records n rule doc) = c.record_count.ensures ∙ omega arith in
    let third = rw count at c.print_end.ensures.text in
    last_printed g.O.Sink.output c.print_end.result c.args.printer.now c.print_content.new.printer c.print_end.new.printer (head ++ content) (text_of_record last) (result_text n rule doc) first
    (whole_texts (head_records rule) (content_records n doc) last ∙ sym (append_assoc head content (text_of_record last))) third

pub returns-clause-broken : goal.returns-clause-broken
returns-clause-broken g c =
    let n = c.args.named.now in
    let doc = c.args.doc.now in
    let rule = c.args.rule in
    let head = flat_map text_of_record (head_records rule) in
    let content = flat_map text_of_record (content_records n doc) in
    let last = end_record (length (body_records n rule doc)) in
    let first = prints_on g.O.Sink.output c.args.printer.now c.print_head.new.printer c.print_content.new.printer head content (head ++ content) c.in_ok-print_head.ensures.text c.in_ok-print_content.ensures.text refl in
    let count : c.record_count.result ≡ length (body_records n rule doc) = c.record_count.ensures ∙ omega arith in
    let third = rw count at c.print_end.ensures.broken in
    let keeps = keeps_on g.O.Sink.output c.args.printer.now c.print_head.new.printer c.print_content.new.printer c.print_head.ensures.keeps c.print_content.ensures.keeps in
    last_broken g.O.Sink.output c.print_end.result c.args.printer.now c.print_content.new.printer c.print_end.new.printer (head ++ content) (text_of_record last) (result_text n rule doc) keeps first
    (whole_texts (head_records rule) (content_records n doc) last ∙ sym (append_assoc head content (text_of_record last))) third
