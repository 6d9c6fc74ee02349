use Rattle.sl_amend.proofs.Says.{same_says as law}
use Rattle.sl_amend.proofs.theorems.same_says.Goals as goal

pub returns : goal.returns
returns c = law
