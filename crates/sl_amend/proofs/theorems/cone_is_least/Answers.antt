use Rattle.sl_types.proofs.Faultless.{well_formed}
use Rattle.sl_amend.proofs.Least.{cone_is_least as law}
use Rattle.sl_amend.proofs.theorems.cone_is_least.Goals as goal

pub returns : goal.returns
returns c = λ old new old_ok new_ok. law old new (well_formed old old_ok) (well_formed new new_ok)
