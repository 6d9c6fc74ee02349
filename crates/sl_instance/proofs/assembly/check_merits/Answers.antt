use Rattle.std.proofs.Common.{◌≡◌, ◌∙◌, ℕ, length, ap, sym, subst, refl, List, All}
use Rattle.sl_types.specs.declared.kinds.PoolId.{PoolId}
use Rattle.sl_choices.specs.declared.choices.ChoiceRow.{ChoiceRow}
use Rattle.sl_instance.specs.Causes.{IsFine, merit_fault, merits_fault}
use Rattle.sl_instance.proofs.Fit.{rows_fine}
use Rattle.sl_instance.proofs.assembly.check_merits.Goals as goal

pub merit_fault-requires-clause-fine : goal.merit_fault-requires-clause-fine
merit_fault-requires-clause-fine c =
    let rows = c.args.choices.now.rows in
    let progs = c.args.progs.now in
    let fine = rows_fine c.args.choices.now (length progs.codes) c.rows.ensures.right c.requires in
    let count : length progs.codes ≡ length c.pools-2.result.now = c.pools-2.ensures.right.each ∙ ap (λ (pools : List PoolId). length pools) (sym c.pools-2.ensures.pools) in
    let known = subst (λ (n : ℕ). All (IsFine n) rows) count fine in
    subst (λ (known : List ChoiceRow). All (IsFine (length c.pools-2.result.now)) known) (sym c.rows.ensures.rows) known

pub returns-in-Ok-None-clause-right : goal.returns-in-Ok-None-clause-right
returns-in-Ok-None-clause-right c =
    let same : merit_fault c.pools.result.now c.pools-2.result.now c.rows.result.now ≡ merits_fault c.args.pools.now c.args.progs.now c.args.choices.now =
    rw (c.pools.ensures.pools, c.pools-2.ensures.pools, c.rows.ensures.rows) refl in
    sym same ∙ sym c.in-Ok-None.ensures ∙ c.in-Ok-None.field-0-is

pub returns-in-Ok-Some-clause-refused : goal.returns-in-Ok-Some-clause-refused
returns-in-Ok-Some-clause-refused c =
    let same : merit_fault c.pools.result.now c.pools-2.result.now c.rows.result.now ≡ merits_fault c.args.pools.now c.args.progs.now c.args.choices.now =
    rw (c.pools.ensures.pools, c.pools-2.ensures.pools, c.rows.ensures.rows) refl in
    sym same ∙ sym c.in-Ok-Some.ensures ∙ c.in-Ok-Some.field-0-is
