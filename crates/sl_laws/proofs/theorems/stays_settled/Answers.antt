use Rattle.sl_types.proofs.Faultless.{well_formed}
use Rattle.sl_laws.proofs.Local.{stays_settled as law}
use Rattle.sl_laws.proofs.theorems.stays_settled.Goals as goal

pub returns : goal.returns
returns c = λ market ok. law market (well_formed market ok)
