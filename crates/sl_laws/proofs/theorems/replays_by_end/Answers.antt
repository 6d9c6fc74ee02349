use Rattle.sl_laws.proofs.Ends.{replays_by_end as law}
use Rattle.sl_laws.proofs.theorems.replays_by_end.Goals as goal

pub returns : goal.returns
returns c = law
