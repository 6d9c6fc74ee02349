use Rattle.sl_amend.proofs.Says.{touched_says as law}
use Rattle.sl_amend.proofs.theorems.touched_says.Goals as goal

pub returns : goal.returns
returns c = law
