use Rattle.sl_types.proofs.Faultless.{well_formed}
use Rattle.sl_amend.proofs.Replayed.{kept_replays as law}
use Rattle.sl_amend.proofs.theorems.kept_replays.Goals as goal

pub returns : goal.returns
returns c = λ old new old_ok new_ok. law old new (well_formed old old_ok) (well_formed new new_ok)
