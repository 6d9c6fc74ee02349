use Rattle.sl_amend.proofs.ReadTables.{tables_read_back as law}
use Rattle.sl_amend.proofs.theorems.tables_read_back.Goals as goal

pub returns : goal.returns
returns c = law
