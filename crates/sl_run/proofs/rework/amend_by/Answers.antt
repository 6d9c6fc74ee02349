use Rattle.sl_run.specs.Run.{amended_by, kept_of}
use Rattle.sl_run.proofs.rework.amend_by.Goals as goal

pub returns-clause-amended : goal.returns-clause-amended
unfolding amended_by
returns-clause-amended c = c.amend-amended.ensures.amended

pub returns-clause-kept : goal.returns-clause-kept
unfolding kept_of
returns-clause-kept c = c.amend-amended.ensures.kept
