use Rattle.sl_laws.proofs.Ends.{reaches_by_end as law}
use Rattle.sl_laws.proofs.theorems.reaches_by_end.Goals as goal

pub returns : goal.returns
returns c = law
