use Rattle.std.proofs.Common.{[]}
use Rattle.sl_run.proofs.Accepting.{tables_once}
use Rattle.sl_run.proofs.theorems.tables_are_one.Goals as goal

pub returns : goal.returns
returns c = λ shelf rule tables n n' held held'. tables_once shelf rule tables n n' [] held held'
