use Rattle.sl_floor.proofs.Events.{opens_are}
use Rattle.sl_floor.proofs.theorems.opens_at_start.Goals as goal

pub returns : goal.returns
returns c = opens_are
