use Rattle.std.proofs.Common.{sym, ap, refl, Err, None}
use Rattle.std.proofs.lemmas.Result.{err_from_is_err_and}
use Rattle.sl_codes.specs.RecordText.{text_of_record}
use Rattle.sl_doc.specs.VerdictText.{verdict_record}
use Rattle.sl_run.specs.Words.{check, tables_in, inputs_of}
use Rattle.sl_run.specs.Ending.{quiet}
use Rattle.sl_run.specs.Run.{PerformsPart}
use Rattle.sl_run.proofs.Writing.{write_cause, write_leaves, files_leave}
use Rattle.sl_run.proofs.check.check_to.Goals as goal

pub returns-in_err-named-clause-left : goal.returns-in_err-named-clause-left
returns-in_err-named-clause-left g c =
    let out = g.O.Sink.output c.args.out.now in
    let p = err_from_is_err_and c.from_residual.result c.from_residual.ensures.1 in
    rw (p.1, p.2) (files_leave _ (PerformsPart (g.S.Shelf.files c.args.shelf.now) (check (tables_in c.args.tables) c.args.document.now) out out) out out c.in_err-named.field-0.0 c.in_err-named.ensures.late refl)

pub returns-in-Ok-clause-carried_out : goal.returns-in-Ok-clause-carried_out
returns-in-Ok-clause-carried_out g c = λ told. record {
  n = c.in_ok-named.named;
  held = c.in_ok-named.ensures.held told;
  verdict = c.in_ok-named.verdict;
  text = text_of_record (verdict_record c.in_ok-named.named c.in_ok-named.verdict);
  comes = (c.in_ok-named.ensures.judged told, refl, refl);
  put = c.in-Ok.ensures.text;
  ends = ap quiet (sym c.verdict_status.ensures);
}

pub returns-in-Ok-clause-done : goal.returns-in-Ok-clause-done
returns-in-Ok-clause-done g c = (c.in_ok-named.named, c.in_ok-named.verdict, ap quiet (sym c.verdict_status.ensures))

pub returns-clause-left : goal.returns-clause-left
returns-clause-left g c = rw c.from.ensures
    (write_leaves _ (PerformsPart (g.S.Shelf.files c.args.shelf.now) (check (tables_in c.args.tables) c.args.document.now) (g.O.Sink.output c.args.out.now) (g.O.Sink.output c.verdict_text.new.out))
    (g.O.Sink.output c.args.out.now) (g.O.Sink.output c.verdict_text.new.out) c.in-Err.error
    (λ fault. c.in-Err.ensures.cause (ap Err fault))
    (λ told. (
      None,
      record {
        n = c.in_ok-named.named;
        held = c.in_ok-named.ensures.held told;
        verdict = c.in_ok-named.verdict;
        text = text_of_record (verdict_record c.in_ok-named.named c.in_ok-named.verdict);
        comes = (c.in_ok-named.ensures.judged told, refl, refl);
        put = c.in-Err.ensures.part;
        ends = refl;
      },
    )))

pub returns-clause-cause : goal.returns-clause-cause
returns-clause-cause g c = rw c.from.ensures
    (write_cause (inputs_of (check (tables_in c.args.tables) c.args.document.now)) (g.S.Shelf.files c.args.shelf.now) (g.S.Shelf.files c.judge.new.shelf) c.in_ok-named.named c.in-Err.error c.in_ok-named.ensures.held)
