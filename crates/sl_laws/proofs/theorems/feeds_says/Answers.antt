use Rattle.sl_laws.proofs.Feeding.{feeds_says as law}
use Rattle.sl_laws.proofs.theorems.feeds_says.Goals as goal

pub returns : goal.returns
returns c = law
