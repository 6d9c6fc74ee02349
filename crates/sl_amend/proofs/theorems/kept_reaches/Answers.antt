use Rattle.sl_amend.proofs.Replayed.{kept_reaches as law}
use Rattle.sl_amend.proofs.theorems.kept_reaches.Goals as goal

pub returns : goal.returns
returns c = law
