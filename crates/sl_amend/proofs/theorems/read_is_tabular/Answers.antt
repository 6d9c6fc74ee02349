use Rattle.sl_amend.proofs.ReadTables.{read_is_tabular as law}
use Rattle.sl_amend.proofs.theorems.read_is_tabular.Goals as goal

pub returns : goal.returns
returns c = law
