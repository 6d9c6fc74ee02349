use Rattle.std.proofs.Common.{[], ◌∷◌, refl}
use Rattle.std.proofs.lemmas.Result.{err_from_is_err_and}
use Rattle.sl_codes.specs.declared.faults.Table.TheVariants.{Amendments}
use Rattle.sl_run.specs.Words.{tables_in, table_inputs, file_of, letter_rule}
use Rattle.sl_run.specs.Accepted.{amendment_fault}
use Rattle.sl_run.specs.Fetching.{GivesRows}
use Rattle.sl_run.proofs.Accepting.{cause_on, file_fails, file_late, keeps_on, one_more, told_before}
use Rattle.sl_run.proofs.table.read_amended.Goals as goal

pub returns-in_err-named-clause-cause : goal.returns-in_err-named-clause-cause
returns-in_err-named-clause-cause g c =
    let p = err_from_is_err_and c.from_residual.result c.from_residual.ensures.1 in
    rw (p.1, p.2)
    (cause_on (tables_in c.args.tables) (file_of Amendments c.args.amendments.now ∷ []) (g.S.Shelf.files c.args.shelf.now) (g.S.Shelf.files c.read_tables.new.shelf)
    c.in_err-named.field-0.0 c.in_err-named.ensures.late c.in_err-named.ensures.cause)

pub returns-in_err-rows-clause-cause : goal.returns-in_err-rows-clause-cause
returns-in_err-rows-clause-cause g c =
    let p = err_from_is_err_and c.from_residual-in_err-rows.result c.from_residual-in_err-rows.ensures.1 in
    rw (p.1, p.2)
    (file_fails (g.S.Shelf.files c.args.shelf.now) (g.S.Shelf.files c.read_tables.new.shelf) (g.S.Shelf.files c.fetch_amendments.new.shelf)
    (table_inputs (tables_in c.args.tables) c.args.amendments.now) c.in_ok-named.named 3 (file_of Amendments c.args.amendments.now)
    c.in_ok-named.ensures.keeps refl c.in_ok-named.ensures.held c.in_err-rows.field-0.0 c.in_err-rows.ensures.cause)

pub returns-in_err-rows-clause-late : goal.returns-in_err-rows-clause-late
returns-in_err-rows-clause-late g c =
    let p = err_from_is_err_and c.from_residual-in_err-rows.result c.from_residual-in_err-rows.ensures.1 in
    rw (p.1, p.2)
    (file_late Amendments (amendment_fault c.in_ok-named.named) (g.S.Shelf.files c.read_tables.new.shelf) (g.S.Shelf.files c.fetch_amendments.new.shelf) c.args.amendments.now
    c.in_err-rows.field-0.0 c.in_err-rows.ensures.cause)

pub returns-in-Ok-clause-held : goal.returns-in-Ok-clause-held
returns-in-Ok-clause-held g c = λ told.
    let n = c.in_ok-named.named in
    let (text, is, few, right) = told_before (g.S.Shelf.files c.args.shelf.now) (g.S.Shelf.files c.read_tables.new.shelf) c.args.amendments.now
    (GivesRows n c.in_ok-rows.rows.rows) c.in_ok-named.ensures.keeps c.in_ok-rows.ensures.rows told in
    one_more (g.S.Shelf.files c.args.shelf.now) (letter_rule c.args.tables.letter) (tables_in c.args.tables) n (file_of Amendments c.args.amendments.now) (c.in_ok-named.ensures.held told) (text, is, few, (right.0, tt))

pub returns-in-Ok-clause-amended : goal.returns-in-Ok-clause-amended
returns-in-Ok-clause-amended g c = λ told. (
  c.in_ok-rows.rows.rows,
  told_before (g.S.Shelf.files c.args.shelf.now) (g.S.Shelf.files c.read_tables.new.shelf) c.args.amendments.now
      (GivesRows c.in_ok-named.named c.in_ok-rows.rows.rows) c.in_ok-named.ensures.keeps c.in_ok-rows.ensures.rows told,
  c.in-Ok.ensures.amended,
)

pub returns-in-Ok-clause-keeps : goal.returns-in-Ok-clause-keeps
returns-in-Ok-clause-keeps g c = keeps_on (g.S.Shelf.files c.args.shelf.now) (g.S.Shelf.files c.read_tables.new.shelf) (g.S.Shelf.files c.fetch_amendments.new.shelf) c.read_tables.ensures.keeps c.fetch_amendments.ensures.keeps

pub returns-in-Err-clause-keeps : goal.returns-in-Err-clause-keeps
returns-in-Err-clause-keeps g c = keeps_on (g.S.Shelf.files c.args.shelf.now) (g.S.Shelf.files c.read_tables.new.shelf) (g.S.Shelf.files c.fetch_amendments.new.shelf) c.read_tables.ensures.keeps c.fetch_amendments.ensures.keeps
