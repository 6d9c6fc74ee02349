use Rattle.sl_run.proofs.Faultless.{tables_have_instance as law}
use Rattle.sl_run.proofs.theorems.tables_have_instance.Goals as goal

pub returns : goal.returns
returns c = law
