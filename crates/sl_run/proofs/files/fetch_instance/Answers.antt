use Rattle.std.proofs.lemmas.Result.{err_from_is_err_and}
use Rattle.sl_run.proofs.Accepting.{choices_fail, merits_fail, instance_read}
use Rattle.sl_run.proofs.files.fetch_instance.Goals as goal

pub returns-in_err-choices-clause-cause : goal.returns-in_err-choices-clause-cause
returns-in_err-choices-clause-cause g c =
    let p = err_from_is_err_and c.from_residual.result c.from_residual.ensures.1 in
    rw (p.1, p.2)
    (choices_fail (g.S.Shelf.files c.args.shelf.now) (g.S.Shelf.files c.fetch_applications.new.shelf) c.args.name.now c.args.pools c.args.progs c.in_err-choices.field-0.0 c.in_err-choices.ensures.cause)

pub returns-in-Ok-clause-named : goal.returns-in-Ok-clause-named
returns-in-Ok-clause-named g c =
    instance_read (g.S.Shelf.files c.args.shelf.now) (g.S.Shelf.files c.fetch_applications.new.shelf) c.args.name.now c.args.pools c.args.progs c.in_ok-choices.choices
    c.in_ok-choices.ensures.table c.in-Ok.named c.in-Ok.ensures.right c.in-Ok.ensures.assembled

pub returns-in-Err-clause-cause : goal.returns-in-Err-clause-cause
returns-in-Err-clause-cause g c =
    rw c.from.ensures
    (merits_fail (g.S.Shelf.files c.args.shelf.now) (g.S.Shelf.files c.fetch_applications.new.shelf) c.args.name.now c.args.pools c.args.progs c.in_ok-choices.choices
    c.in_ok-choices.ensures.table c.in-Err.error c.in-Err.ensures.refused)
