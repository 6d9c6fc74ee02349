use Rattle.sl_amend.proofs.StillTabular.{amended_keeps_programmes as law}
use Rattle.sl_amend.proofs.theorems.amended_keeps_programmes.Goals as goal

pub returns : goal.returns
returns c = law
