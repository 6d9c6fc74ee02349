use Rattle.sl_amend.proofs.Says.{changed_says as law}
use Rattle.sl_amend.proofs.theorems.changed_says.Goals as goal

pub returns : goal.returns
returns c = law
