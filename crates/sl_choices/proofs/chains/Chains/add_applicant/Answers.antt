use Rattle.sl_choices.proofs.Links.{linked_applicant}
use Rattle.sl_choices.proofs.chains.Chains.add_applicant.Goals as goal

pub returns-clause-linked : goal.returns-clause-linked
returns-clause-linked c =
    let self = c.args.self.now in
    rw c.in_ok-push.ensures.items (linked_applicant self.rows.items self.last.items self.before.items c.requires)
