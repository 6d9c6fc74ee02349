use Rattle.std.proofs.Common.{◌∙◌, ap}
use Rattle.sl_amend.specs.Applied.{draft_after}
use Rattle.sl_amend.specs.DraftMarket.{opening}
use Rattle.sl_amend.specs.Files.{AmendmentList}
use Rattle.sl_amend.proofs.amendments.Amendments.draft.Goals as goal

pub returns-clause-draft : goal.returns-clause-draft
returns-clause-draft c =
    c.self.invariant.leads ∙ ap (λ (a : AmendmentList). draft_after (opening a.named) a.rows) c.self.view_is
