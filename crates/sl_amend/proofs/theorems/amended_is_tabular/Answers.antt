use Rattle.sl_amend.proofs.StillTabular.{amended_is_tabular as law}
use Rattle.sl_amend.proofs.theorems.amended_is_tabular.Goals as goal

pub returns : goal.returns
returns c = law
