use Rattle.std.proofs.Common.{[], ◌∷◌, refl}
use Rattle.std.proofs.lemmas.List.Elements.{All-nil, All-cons}
use Rattle.std.proofs.lemmas.Result.{err_from_is_err_and}
use Rattle.sl_codes.specs.declared.faults.Table.TheVariants.{Pools, Programmes, Applications}
use Rattle.sl_run.specs.Words.{tables_in, inputs_in, file_of, letter_rule}
use Rattle.sl_run.specs.Accepted.{HoldsFor, IsTextFor, application_fault}
use Rattle.sl_run.specs.Fetching.{GivesInstance}
use Rattle.sl_run.proofs.Accepting.{file_fails, file_late, keeps_itself, keeps_on, nothing_read, with_pools, with_progs, told_before, made_of_tables}
use Rattle.sl_run.proofs.files.read_tables.Goals as goal

pub returns-in_err-pools-clause-cause : goal.returns-in_err-pools-clause-cause
returns-in_err-pools-clause-cause g c =
    let shelf = g.S.Shelf.files c.args.shelf.now in
    let p = err_from_is_err_and c.from_residual.result c.from_residual.ensures.1 in
    rw (p.1, p.2)
    (file_fails shelf shelf (g.S.Shelf.files c.fetch_pools.new.shelf) (inputs_in c.args.tables) nothing_read 0 (file_of Pools c.args.tables.pools.now)
    (keeps_itself shelf) refl (λ told. All-nil (HoldsFor shelf (letter_rule c.args.tables.letter) nothing_read)) c.in_err-pools.field-0.0 c.in_err-pools.ensures.cause)

pub returns-in_err-progs-clause-cause : goal.returns-in_err-progs-clause-cause
returns-in_err-progs-clause-cause g c =
    let shelf = g.S.Shelf.files c.args.shelf.now in
    let t = c.args.tables in
    let n = with_pools c.in_ok-pools.pools in
    let P = HoldsFor shelf (letter_rule t.letter) n in
    let held = told_before shelf shelf t.pools.now (IsTextFor (letter_rule t.letter) n Pools) (keeps_itself shelf) c.in_ok-pools.ensures.table in
    let p = err_from_is_err_and c.from_residual-in_err-progs.result c.from_residual-in_err-progs.ensures.1 in
    rw (p.1, p.2)
    (file_fails shelf (g.S.Shelf.files c.fetch_pools.new.shelf) (g.S.Shelf.files c.fetch_programmes.new.shelf) (inputs_in t) n 1 (file_of Programmes t.programmes.now)
    c.in_ok-pools.ensures.keeps refl (λ told. All-cons P (file_of Pools t.pools.now) [] (held told) (All-nil P)) c.in_err-progs.field-0.0 c.in_err-progs.ensures.cause)

pub returns-in_err-named-clause-cause : goal.returns-in_err-named-clause-cause
returns-in_err-named-clause-cause g c =
    let shelf = g.S.Shelf.files c.args.shelf.now in
    let second = g.S.Shelf.files c.fetch_pools.new.shelf in
    let third = g.S.Shelf.files c.fetch_programmes.new.shelf in
    let t = c.args.tables in
    let rule = letter_rule t.letter in
    let n = with_progs c.in_ok-pools.pools c.in_ok-progs.progs in
    let P = HoldsFor shelf rule n in
    let held_pools = told_before shelf shelf t.pools.now (IsTextFor rule n Pools) (keeps_itself shelf) c.in_ok-pools.ensures.table in
    let held_progs = told_before shelf second t.programmes.now (IsTextFor rule n Programmes) c.in_ok-pools.ensures.keeps c.in_ok-progs.ensures.table in
    let p = err_from_is_err_and c.from_residual-in_err-named.result c.from_residual-in_err-named.ensures.1 in
    rw (p.1, p.2)
    (file_fails shelf third (g.S.Shelf.files c.fetch_instance.new.shelf) (inputs_in t) n 2 (file_of Applications t.applications.now)
    (keeps_on shelf second third c.in_ok-pools.ensures.keeps c.in_ok-progs.ensures.keeps) refl
    (λ told. All-cons P (file_of Pools t.pools.now) (file_of Programmes t.programmes.now ∷ []) (held_pools told)
    (All-cons P (file_of Programmes t.programmes.now) [] (held_progs told) (All-nil P)))
    c.in_err-named.field-0.0 c.in_err-named.ensures.cause)

pub returns-in_err-named-clause-late : goal.returns-in_err-named-clause-late
returns-in_err-named-clause-late g c =
    let p = err_from_is_err_and c.from_residual-in_err-named.result c.from_residual-in_err-named.ensures.1 in
    rw (p.1, p.2)
    (file_late Applications (application_fault c.in_ok-pools.pools c.in_ok-progs.progs) (g.S.Shelf.files c.fetch_programmes.new.shelf) (g.S.Shelf.files c.fetch_instance.new.shelf)
    c.args.tables.applications.now c.in_err-named.field-0.0 c.in_err-named.ensures.cause)

pub returns-clause-held : goal.returns-clause-held
returns-clause-held g c = λ told.
    let shelf = g.S.Shelf.files c.args.shelf.now in
    let second = g.S.Shelf.files c.fetch_pools.new.shelf in
    let third = g.S.Shelf.files c.fetch_programmes.new.shelf in
    let t = c.args.tables in
    let rule = letter_rule t.letter in
    let pools = c.in_ok-pools.pools in
    let progs = c.in_ok-progs.progs in
    let named = c.in_ok-named.named in
    let n = with_progs pools progs in
    let held_pools = told_before shelf shelf t.pools.now (IsTextFor rule n Pools) (keeps_itself shelf) c.in_ok-pools.ensures.table told in
    let held_progs = told_before shelf second t.programmes.now (IsTextFor rule n Programmes) c.in_ok-pools.ensures.keeps c.in_ok-progs.ensures.table told in
    let held_applications = told_before shelf third t.applications.now (GivesInstance pools progs named)
    (keeps_on shelf second third c.in_ok-pools.ensures.keeps c.in_ok-progs.ensures.keeps) c.in_ok-named.ensures.named told in
    made_of_tables shelf rule (tables_in t) pools progs named held_pools held_progs held_applications

pub returns-clause-keeps : goal.returns-clause-keeps
returns-clause-keeps g c =
    let shelf = g.S.Shelf.files c.args.shelf.now in
    let second = g.S.Shelf.files c.fetch_pools.new.shelf in
    let third = g.S.Shelf.files c.fetch_programmes.new.shelf in
    keeps_on shelf third (g.S.Shelf.files c.fetch_instance.new.shelf)
    (keeps_on shelf second third c.fetch_pools.ensures.keeps c.fetch_programmes.ensures.keeps) c.fetch_instance.ensures.keeps
