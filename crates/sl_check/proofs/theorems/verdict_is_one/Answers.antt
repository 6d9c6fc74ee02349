use Rattle.sl_check.proofs.One.{one_verdict}
use Rattle.sl_check.proofs.theorems.verdict_is_one.Goals as goal

pub returns : goal.returns
returns c = one_verdict
