use Rattle.sl_types.proofs.Faultless.{well_formed}
use Rattle.sl_core.proofs.Quiet.{settled as law}
use Rattle.sl_core.proofs.theorems.quiet_is_settled.Goals as goal

pub returns : goal.returns
returns c = λ market ok. law market (well_formed market ok)
