use Rattle.std.proofs.Common.{◌≡◌, ◌++◌, map, sym, ap, refl, inl, Err, Some}
use Rattle.std.proofs.lemmas.Result.{err_from_is_err_and}
use Rattle.sl_check.specs.declared.verdict.Verdict.TheVariants.{Yes}
use Rattle.sl_doc.specs.ResultText.{result_text}
use Rattle.sl_run.specs.Looks.{looks_text}
use Rattle.sl_run.specs.Words.{watch, tables_in, inputs_in, letter_rule}
use Rattle.sl_run.specs.Run.{PerformsPart}
use Rattle.sl_run.proofs.Writing.{write_cause, write_leaves, files_leave}
use Rattle.sl_run.proofs.watch.watch_to.Goals as goal

pub returns-in_err-named-clause-left : goal.returns-in_err-named-clause-left
returns-in_err-named-clause-left g c =
    let out = g.O.Sink.output c.args.out.now in
    let p = err_from_is_err_and c.from_residual.result c.from_residual.ensures.1 in
    rw (p.1, p.2)
    (files_leave _ (PerformsPart (g.S.Shelf.files c.args.shelf.now) (watch c.args.looks c.args.workers (tables_in c.args.tables)) out out) out out c.in_err-named.field-0.0 c.in_err-named.ensures.late refl)

pub returns-in_err-doc-clause-left : goal.returns-in_err-doc-clause-left
returns-in_err-doc-clause-left g c =
    let p = err_from_is_err_and c.from_residual-in_err-doc.result c.from_residual-in_err-doc.ensures.1 in
    rw (p.1, p.2) (inl refl)

pub returns-in_err-doc-clause-cause : goal.returns-in_err-doc-clause-cause
returns-in_err-doc-clause-cause g c =
    let p = err_from_is_err_and c.from_residual-in_err-doc.result c.from_residual-in_err-doc.ensures.1 in
    rw (p.1, p.2) tt

pub returns-in-Ok-clause-carried_out : goal.returns-in-Ok-clause-carried_out
returns-in-Ok-clause-carried_out g c = λ told.
    let n = c.in_ok-named.named in
    let doc = c.in_ok-doc.doc in
    let seen = map (λ v. v.items) c.in_ok-doc.seen.items in
    record {
      n = n;
      held = c.in_ok-named.ensures.held told;
      verdict = Yes;
      text = looks_text n seen ++ result_text n (letter_rule c.args.tables.letter) doc;
      comes = (doc, seen, record { valid = c.in_ok-named.ensures.valid; named = c.in_ok-named.ensures.named; result = c.in_ok-doc.ensures.result }, c.in_ok-doc.ensures.looks, c.in_ok-doc.ensures.receipt, refl);
      put = rw (sym c.rule.ensures.rule, sym c.deref.ensures.value) c.in-Ok.ensures.text;
      ends = refl;
    }

pub returns-in-Ok-clause-floor : goal.returns-in-Ok-clause-floor
returns-in-Ok-clause-floor g c = record { kept = λ anew. c.in_ok-doc.ensures.receipt.floor.kept_is; whole = c.in_ok-doc.ensures.receipt.whole }

pub returns-clause-left : goal.returns-clause-left
returns-clause-left g c =
    let n = c.in_ok-named.named in
    let doc = c.in_ok-doc.doc in
    let seen = map (λ v. v.items) c.in_ok-doc.seen.items in
    rw c.from.ensures
    (write_leaves (c.put_watched.new.out ≡ c.args.out.now) (PerformsPart (g.S.Shelf.files c.args.shelf.now) (watch c.args.looks c.args.workers (tables_in c.args.tables)) (g.O.Sink.output c.args.out.now) (g.O.Sink.output c.put_watched.new.out))
    (g.O.Sink.output c.args.out.now) (g.O.Sink.output c.put_watched.new.out) c.in-Err.error
    (λ fault. c.in-Err.ensures.cause (ap Err fault))
    (λ told. (
      Some c.in_ok-doc.receipt,
      record {
        n = n;
        held = c.in_ok-named.ensures.held told;
        verdict = Yes;
        text = looks_text n seen ++ result_text n (letter_rule c.args.tables.letter) doc;
        comes = (doc, seen, record { valid = c.in_ok-named.ensures.valid; named = c.in_ok-named.ensures.named; result = c.in_ok-doc.ensures.result }, c.in_ok-doc.ensures.looks, c.in_ok-doc.ensures.receipt, refl);
        put = rw (sym c.rule.ensures.rule, sym c.deref.ensures.value) c.in-Err.ensures.part;
        ends = refl;
      },
    )))

pub returns-clause-cause : goal.returns-clause-cause
returns-clause-cause g c = rw c.from.ensures
    (write_cause (inputs_in c.args.tables) (g.S.Shelf.files c.args.shelf.now) (g.S.Shelf.files c.read_tables.new.shelf) c.in_ok-named.named c.in-Err.error c.in_ok-named.ensures.held)
