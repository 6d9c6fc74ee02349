use Rattle.sl_run.specs.Run.{amended_by}
use Rattle.sl_run.proofs.table.amended_of.Goals as goal

pub returns : goal.returns
unfolding amended_by
returns c = record { amended = c.amended_instance-amended.ensures }
