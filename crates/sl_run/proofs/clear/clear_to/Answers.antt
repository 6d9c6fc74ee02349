use Rattle.std.proofs.Common.{sym, ap, refl, inl, Err, Some}
use Rattle.std.proofs.lemmas.Result.{err_from_is_err_and}
use Rattle.sl_check.specs.declared.verdict.Verdict.TheVariants.{Yes}
use Rattle.sl_doc.specs.ResultText.{result_text}
use Rattle.sl_run.specs.Words.{clear, tables_in, inputs_in, letter_rule}
use Rattle.sl_run.specs.Run.{PerformsPart}
use Rattle.sl_run.proofs.Writing.{write_cause, write_leaves, files_leave}
use Rattle.sl_run.proofs.clear.clear_to.Goals as goal

pub returns-in_err-named-clause-left : goal.returns-in_err-named-clause-left
returns-in_err-named-clause-left g c =
    let out = g.O.Sink.output c.args.out.now in
    let p = err_from_is_err_and c.from_residual.result c.from_residual.ensures.1 in
    rw (p.1, p.2) (files_leave _ (PerformsPart (g.S.Shelf.files c.args.shelf.now) (clear c.args.workers (tables_in c.args.tables)) out out) out out c.in_err-named.field-0.0 c.in_err-named.ensures.late refl)

pub returns-in_err-doc-clause-left : goal.returns-in_err-doc-clause-left
returns-in_err-doc-clause-left g c =
    let p = err_from_is_err_and c.from_residual-in_err-doc.result c.from_residual-in_err-doc.ensures.1 in
    rw (p.1, p.2) (inl refl)

pub returns-in_err-doc-clause-cause : goal.returns-in_err-doc-clause-cause
returns-in_err-doc-clause-cause g c =
    let p = err_from_is_err_and c.from_residual-in_err-doc.result c.from_residual-in_err-doc.ensures.1 in
    rw (p.1, p.2) tt

pub returns-in-Ok-clause-carried_out : goal.returns-in-Ok-clause-carried_out
returns-in-Ok-clause-carried_out g c = λ told. record {
  n = c.in_ok-named.named;
  held = c.in_ok-named.ensures.held told;
  verdict = Yes;
  text = result_text c.in_ok-named.named (letter_rule c.args.tables.letter) c.in_ok-doc.doc;
  comes = (c.in_ok-doc.doc, record { valid = c.in_ok-named.ensures.valid; named = c.in_ok-named.ensures.named; result = c.in_ok-doc.ensures.result }, c.in_ok-doc.ensures.receipt, refl);
  put = rw (sym c.rule.ensures.rule) c.in-Ok.ensures.text;
  ends = refl;
}

pub returns-in-Ok-clause-floor : goal.returns-in-Ok-clause-floor
returns-in-Ok-clause-floor g c = record { kept = λ anew. c.in_ok-doc.ensures.receipt.floor.kept_is; whole = c.in_ok-doc.ensures.receipt.whole }

pub returns-clause-left : goal.returns-clause-left
returns-clause-left g c = rw c.from.ensures
    (write_leaves _ (PerformsPart (g.S.Shelf.files c.args.shelf.now) (clear c.args.workers (tables_in c.args.tables)) (g.O.Sink.output c.args.out.now) (g.O.Sink.output c.doc_text.new.out))
    (g.O.Sink.output c.args.out.now) (g.O.Sink.output c.doc_text.new.out) c.in-Err.error
    (λ fault. c.in-Err.ensures.cause (ap Err fault))
    (λ told. (
      Some c.in_ok-doc.receipt,
      record {
        n = c.in_ok-named.named;
        held = c.in_ok-named.ensures.held told;
        verdict = Yes;
        text = result_text c.in_ok-named.named (letter_rule c.args.tables.letter) c.in_ok-doc.doc;
        comes = (c.in_ok-doc.doc, record { valid = c.in_ok-named.ensures.valid; named = c.in_ok-named.ensures.named; result = c.in_ok-doc.ensures.result }, c.in_ok-doc.ensures.receipt, refl);
        put = rw (sym c.rule.ensures.rule) c.in-Err.ensures.part;
        ends = refl;
      },
    )))

pub returns-clause-cause : goal.returns-clause-cause
returns-clause-cause g c = rw c.from.ensures
    (write_cause (inputs_in c.args.tables) (g.S.Shelf.files c.args.shelf.now) (g.S.Shelf.files c.read_tables.new.shelf) c.in_ok-named.named c.in-Err.error c.in_ok-named.ensures.held)
