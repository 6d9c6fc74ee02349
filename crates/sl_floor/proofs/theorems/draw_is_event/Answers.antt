use Rattle.sl_floor.proofs.Events.{draws_are}
use Rattle.sl_floor.proofs.theorems.draw_is_event.Goals as goal

pub returns : goal.returns
returns c = draws_are
