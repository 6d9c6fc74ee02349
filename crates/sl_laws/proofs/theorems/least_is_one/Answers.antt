use Rattle.sl_laws.proofs.Ends.{least_is_one as law}
use Rattle.sl_laws.proofs.theorems.least_is_one.Goals as goal

pub returns : goal.returns
returns c = law
