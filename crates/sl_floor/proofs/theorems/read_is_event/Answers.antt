use Rattle.sl_floor.proofs.Events.{reads_are}
use Rattle.sl_floor.proofs.theorems.read_is_event.Goals as goal

pub returns : goal.returns
returns c = reads_are
