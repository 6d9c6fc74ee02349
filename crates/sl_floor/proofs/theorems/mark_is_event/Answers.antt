use Rattle.sl_floor.proofs.Events.{marks_are}
use Rattle.sl_floor.proofs.theorems.mark_is_event.Goals as goal

pub returns : goal.returns
returns c = marks_are
