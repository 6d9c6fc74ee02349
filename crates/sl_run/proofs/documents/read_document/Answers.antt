use Rattle.std.proofs.Common.{[], ◌∷◌, refl}
use Rattle.std.proofs.lemmas.Result.{err_from_is_err_and}
use Rattle.sl_codes.specs.declared.faults.Table.TheVariants.{Results}
use Rattle.sl_run.specs.Words.{tables_in, result_inputs, file_of, letter_rule}
use Rattle.sl_run.specs.Accepted.{document_fault}
use Rattle.sl_run.specs.Fetching.{GivesDocument}
use Rattle.sl_run.proofs.Accepting.{cause_on, file_fails, file_late, keeps_on, one_more, told_before}
use Rattle.sl_run.proofs.documents.read_document.Goals as goal

pub returns-in_err-named-clause-cause : goal.returns-in_err-named-clause-cause
returns-in_err-named-clause-cause g c =
    let p = err_from_is_err_and c.from_residual.result c.from_residual.ensures.1 in
    rw (p.1, p.2)
    (cause_on (tables_in c.args.tables) (file_of Results c.args.document.now ∷ []) (g.S.Shelf.files c.args.shelf.now) (g.S.Shelf.files c.read_tables.new.shelf)
    c.in_err-named.field-0.0 c.in_err-named.ensures.late c.in_err-named.ensures.cause)

pub returns-in_err-doc-clause-cause : goal.returns-in_err-doc-clause-cause
returns-in_err-doc-clause-cause g c =
    let p = err_from_is_err_and c.from_residual-in_err-doc.result c.from_residual-in_err-doc.ensures.1 in
    rw (p.1, p.2)
    (file_fails (g.S.Shelf.files c.args.shelf.now) (g.S.Shelf.files c.read_tables.new.shelf) (g.S.Shelf.files c.fetch_result.new.shelf)
    (result_inputs (tables_in c.args.tables) c.args.document.now) c.in_ok-named.named 3 (file_of Results c.args.document.now)
    c.in_ok-named.ensures.keeps refl c.in_ok-named.ensures.held c.in_err-doc.field-0.0 c.in_err-doc.ensures.cause)

pub returns-in_err-doc-clause-late : goal.returns-in_err-doc-clause-late
returns-in_err-doc-clause-late g c =
    let p = err_from_is_err_and c.from_residual-in_err-doc.result c.from_residual-in_err-doc.ensures.1 in
    rw (p.1, p.2)
    (file_late Results (document_fault c.in_ok-named.named (letter_rule c.args.tables.letter)) (g.S.Shelf.files c.read_tables.new.shelf) (g.S.Shelf.files c.fetch_result.new.shelf) c.args.document.now
    c.in_err-doc.field-0.0 c.in_err-doc.ensures.cause)

pub returns-clause-held : goal.returns-clause-held
returns-clause-held g c = λ told.
    let n = c.in_ok-named.named in
    let rule = letter_rule c.args.tables.letter in
    let (text, is, few, right) = told_before (g.S.Shelf.files c.args.shelf.now) (g.S.Shelf.files c.read_tables.new.shelf) c.args.document.now
    (GivesDocument n rule c.in_ok-doc.doc) c.in_ok-named.ensures.keeps c.in_ok-doc.ensures.document told in
    one_more (g.S.Shelf.files c.args.shelf.now) rule (tables_in c.args.tables) n (file_of Results c.args.document.now) (c.in_ok-named.ensures.held told) (text, is, few, (right.0, tt))

pub returns-clause-document : goal.returns-clause-document
returns-clause-document g c = told_before (g.S.Shelf.files c.args.shelf.now) (g.S.Shelf.files c.read_tables.new.shelf) c.args.document.now
    (GivesDocument c.in_ok-named.named (letter_rule c.args.tables.letter) c.in_ok-doc.doc) c.in_ok-named.ensures.keeps c.in_ok-doc.ensures.document

pub returns-clause-keeps : goal.returns-clause-keeps
returns-clause-keeps g c = keeps_on (g.S.Shelf.files c.args.shelf.now) (g.S.Shelf.files c.read_tables.new.shelf) (g.S.Shelf.files c.fetch_result.new.shelf) c.read_tables.ensures.keeps c.fetch_result.ensures.keeps
