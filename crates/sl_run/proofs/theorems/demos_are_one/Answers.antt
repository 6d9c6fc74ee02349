use Rattle.sl_run.proofs.Once.{demos_are_one as law}
use Rattle.sl_run.proofs.theorems.demos_are_one.Goals as goal

pub returns : goal.returns
returns c = law
