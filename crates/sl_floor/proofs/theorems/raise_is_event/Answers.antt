use Rattle.sl_floor.proofs.Events.{raises_are}
use Rattle.sl_floor.proofs.theorems.raise_is_event.Goals as goal

pub returns : goal.returns
returns c = raises_are
