use Rattle.std.proofs.Common.{refl}
use Rattle.std.proofs.lemmas.Result.{err_from_is_err_and}
use Rattle.sl_codes.specs.declared.faults.Table.TheVariants.{Results, Amendments}
use Rattle.sl_run.specs.Words.{tables_in, round_inputs, file_of, letter_rule}
use Rattle.sl_run.specs.Accepted.{amendment_fault}
use Rattle.sl_run.specs.Fetching.{GivesRows}
use Rattle.sl_run.proofs.Accepting.{cause_more, file_fails, file_late, keeps_on, two_more, told_before}
use Rattle.sl_run.proofs.round.read_round.Goals as goal

pub returns-in_err-named-clause-cause : goal.returns-in_err-named-clause-cause
returns-in_err-named-clause-cause g c =
    let p = err_from_is_err_and c.from_residual.result c.from_residual.ensures.1 in
    rw (p.1, p.2)
    (cause_more (tables_in c.args.tables) (file_of Results c.args.document.now) (file_of Amendments c.args.amendments.now) (g.S.Shelf.files c.args.shelf.now) (g.S.Shelf.files c.read_document.new.shelf)
    c.in_err-named.field-0.0 c.in_err-named.ensures.late c.in_err-named.ensures.cause)

pub returns-in_err-amendments-clause-cause : goal.returns-in_err-amendments-clause-cause
returns-in_err-amendments-clause-cause g c =
    let p = err_from_is_err_and c.from_residual-in_err-amendments.result c.from_residual-in_err-amendments.ensures.1 in
    rw (p.1, p.2)
    (file_fails (g.S.Shelf.files c.args.shelf.now) (g.S.Shelf.files c.read_document.new.shelf) (g.S.Shelf.files c.fetch_amendments.new.shelf)
    (round_inputs (tables_in c.args.tables) c.args.document.now c.args.amendments.now) c.in_ok-named.named 4 (file_of Amendments c.args.amendments.now)
    c.in_ok-named.ensures.keeps refl c.in_ok-named.ensures.held c.in_err-amendments.field-0.0 c.in_err-amendments.ensures.cause)

pub returns-in_err-amendments-clause-late : goal.returns-in_err-amendments-clause-late
returns-in_err-amendments-clause-late g c =
    let p = err_from_is_err_and c.from_residual-in_err-amendments.result c.from_residual-in_err-amendments.ensures.1 in
    rw (p.1, p.2)
    (file_late Amendments (amendment_fault c.in_ok-named.named) (g.S.Shelf.files c.read_document.new.shelf) (g.S.Shelf.files c.fetch_amendments.new.shelf) c.args.amendments.now
    c.in_err-amendments.field-0.0 c.in_err-amendments.ensures.cause)

pub returns-clause-held : goal.returns-clause-held
returns-clause-held g c = λ told.
    let n = c.in_ok-named.named in
    let (text, is, few, right) = told_before (g.S.Shelf.files c.args.shelf.now) (g.S.Shelf.files c.read_document.new.shelf) c.args.amendments.now
    (GivesRows n c.in_ok-amendments.amendments.rows) c.in_ok-named.ensures.keeps c.in_ok-amendments.ensures.rows told in
    two_more (g.S.Shelf.files c.args.shelf.now) (letter_rule c.args.tables.letter) (tables_in c.args.tables) n (file_of Results c.args.document.now) (file_of Amendments c.args.amendments.now)
    (c.in_ok-named.ensures.held told) (text, is, few, (right.0, tt))

pub returns-clause-rows : goal.returns-clause-rows
returns-clause-rows g c = told_before (g.S.Shelf.files c.args.shelf.now) (g.S.Shelf.files c.read_document.new.shelf) c.args.amendments.now
    (GivesRows c.in_ok-named.named c.in_ok-amendments.amendments.rows) c.in_ok-named.ensures.keeps c.in_ok-amendments.ensures.rows

pub returns-clause-keeps : goal.returns-clause-keeps
returns-clause-keeps g c = keeps_on (g.S.Shelf.files c.args.shelf.now) (g.S.Shelf.files c.read_document.new.shelf) (g.S.Shelf.files c.fetch_amendments.new.shelf) c.read_document.ensures.keeps c.fetch_amendments.ensures.keeps
