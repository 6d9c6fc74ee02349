use Rattle.std.proofs.Common.{◌∙◌, List, subst}
use Rattle.sl_types.specs.declared.kinds.Raise.{Raise}
use Rattle.sl_core.specs.Parts.{BeginsWith}
use Rattle.sl_run.specs.Receipt.{IsClearedOn}
use Rattle.sl_run.proofs.rework.rework.Goals as goal

pub returns-clause-begins : goal.returns-clause-begins
returns-clause-begins g c =
    let is = c.deref.ensures.value ∙ c.in_ok-named.ensures.kept in
    subst (λ (kept : List Raise). BeginsWith kept c.in_ok-doc.doc.raises) is c.in_ok-doc.ensures.begins

pub returns-clause-receipt : goal.returns-clause-receipt
returns-clause-receipt g c =
    let is = c.deref.ensures.value ∙ c.in_ok-named.ensures.kept in
    subst (λ (kept : List Raise). IsClearedOn c.in_ok-named.named.market kept c.in_ok-doc.doc c.in_ok-doc.receipt) is c.in_ok-doc.ensures.receipt
