use Rattle.std.proofs.Common.{Err, None, ap, refl, subst}
use Rattle.std.proofs.lemmas.Result.{err_from_is_err_and}
use Rattle.sl_types.specs.Market.{Market}
use Rattle.sl_types.specs.Valid.{IsValid}
use Rattle.sl_check.specs.declared.verdict.Verdict.TheVariants.{Yes}
use Rattle.sl_amend.specs.Tables.{text_of_table}
use Rattle.sl_run.specs.Words.{print_table, tables_in, table_inputs}
use Rattle.sl_run.specs.Run.{PerformsPart}
use Rattle.sl_run.proofs.Amending.{tabled_from}
use Rattle.sl_run.proofs.Writing.{write_cause, write_leaves, files_leave}
use Rattle.sl_run.proofs.table.table_to.Goals as goal

pub returns-in_err-named-clause-left : goal.returns-in_err-named-clause-left
returns-in_err-named-clause-left g c =
    let out = g.O.Sink.output c.args.out.now in
    let p = err_from_is_err_and c.from_residual.result c.from_residual.ensures.1 in
    rw (p.1, p.2)
    (files_leave _ (PerformsPart (g.S.Shelf.files c.args.shelf.now) (print_table c.args.printed (tables_in c.args.tables) c.args.amendments.now) out out) out out c.in_err-named.field-0.0 c.in_err-named.ensures.late refl)

pub returns-in-Ok-clause-carried_out : goal.returns-in-Ok-clause-carried_out
returns-in-Ok-clause-carried_out g c =
    let valid = subst (λ (m : Market). IsValid m) c.instance.ensures.market c.pools-pools.ensures.valid in λ told. record {
      n = c.in_ok-named.named;
      held = c.in_ok-named.ensures.held told;
      verdict = Yes;
      text = text_of_table c.in_ok-named.amended c.args.printed;
      comes = tabled_from (g.S.Shelf.files c.args.shelf.now) c.args.printed c.args.amendments.now c.in_ok-named.named c.in_ok-named.amended (c.in_ok-named.ensures.amended told) valid c.instance.ensures.named;
      put = c.in-Ok.ensures.text;
      ends = refl;
    }

pub returns-clause-left : goal.returns-clause-left
returns-clause-left g c =
    let valid = subst (λ (m : Market). IsValid m) c.instance.ensures.market c.pools-pools.ensures.valid in rw c.from.ensures
    (write_leaves _ (PerformsPart (g.S.Shelf.files c.args.shelf.now) (print_table c.args.printed (tables_in c.args.tables) c.args.amendments.now) (g.O.Sink.output c.args.out.now) (g.O.Sink.output c.table_text.new.out))
    (g.O.Sink.output c.args.out.now) (g.O.Sink.output c.table_text.new.out) c.in-Err.error
    (λ fault. c.in-Err.ensures.cause (ap Err fault))
    (λ told. (
      None,
      record {
        n = c.in_ok-named.named;
        held = c.in_ok-named.ensures.held told;
        verdict = Yes;
        text = text_of_table c.in_ok-named.amended c.args.printed;
        comes = tabled_from (g.S.Shelf.files c.args.shelf.now) c.args.printed c.args.amendments.now c.in_ok-named.named c.in_ok-named.amended (c.in_ok-named.ensures.amended told) valid c.instance.ensures.named;
        put = c.in-Err.ensures.part;
        ends = refl;
      },
    )))

pub returns-clause-cause : goal.returns-clause-cause
returns-clause-cause g c = rw c.from.ensures
    (write_cause (table_inputs (tables_in c.args.tables) c.args.amendments.now) (g.S.Shelf.files c.args.shelf.now) (g.S.Shelf.files c.read_amended.new.shelf) c.in_ok-named.named c.in-Err.error c.in_ok-named.ensures.held)
