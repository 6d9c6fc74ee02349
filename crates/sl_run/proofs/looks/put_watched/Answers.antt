use Rattle.std.proofs.Common.{map, arith}
use Rattle.std.proofs.KnownBytes.{Appends-trans}
use Rattle.std.proofs.lemmas.Result.{err_from_is_err_and, on_ok_weaker, on_err_weaker}
use Rattle.sl_doc.specs.ResultText.{result_text}
use Rattle.sl_run.specs.Looks.{looks_text}
use Rattle.sl_run.proofs.Looked.{part_first, part_second}
use Rattle.sl_run.proofs.looks.put_watched.Goals as goal

pub returns-in_err-put_looks-clause-part : goal.returns-in_err-put_looks-clause-part
returns-in_err-put_looks-clause-part g c =
    let before = (g.O.Sink.output c.args.out.now).taken in
    let after = (g.O.Sink.output c.put_looks.new.out).taken in
    let error = err_from_is_err_and c.from_residual.result c.from_residual.ensures.1 in
    rw error.1 (part_first before after (looks_text c.args.named.now (map (λ v. v.items) c.args.seen.now)) (result_text c.args.named.now c.args.rule c.args.doc.now) c.in_err-put_looks.ensures.part)

pub returns-in_err-put_looks-clause-cause : goal.returns-in_err-put_looks-clause-cause
returns-in_err-put_looks-clause-cause g c =
    let error = err_from_is_err_and c.from_residual.result c.from_residual.ensures.1 in
    rw (error.1, error.2) c.in_err-put_looks.ensures.cause

pub returns-clause-text : goal.returns-clause-text
returns-clause-text g c =
    let before = (g.O.Sink.output c.args.out.now).taken in
    let mid = (g.O.Sink.output c.put_looks.new.out).taken in
    let after = (g.O.Sink.output c.doc_text.new.out).taken in
    on_ok_weaker c.doc_text.result (Appends-trans before mid after (looks_text c.args.named.now (map (λ v. v.items) c.args.seen.now)) (result_text c.args.named.now c.args.rule c.args.doc.now) c.in_ok-put_looks.ensures.text)
    c.doc_text.ensures.text

pub returns-clause-part : goal.returns-clause-part
returns-clause-part g c =
    let before = (g.O.Sink.output c.args.out.now).taken in
    let mid = (g.O.Sink.output c.put_looks.new.out).taken in
    let after = (g.O.Sink.output c.doc_text.new.out).taken in
    on_err_weaker c.doc_text.result (part_second before mid after (looks_text c.args.named.now (map (λ v. v.items) c.args.seen.now)) (result_text c.args.named.now c.args.rule c.args.doc.now) c.in_ok-put_looks.ensures.text)
    c.doc_text.ensures.part

pub returns-clause-cause : goal.returns-clause-cause
returns-clause-cause g c = λ fault.
    let later = c.put_looks.ensures.later in
    let rose = c.doc_text.ensures.cause fault in
    omega (arith, later, rose)
