use Rattle.sl_floor.proofs.Events.{claims_are}
use Rattle.sl_floor.proofs.theorems.claim_is_event.Goals as goal

pub returns : goal.returns
returns c = claims_are
