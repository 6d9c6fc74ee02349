use Rattle.sl_types.proofs.Faultless.{well_formed}
use Rattle.sl_laws.proofs.AllRules.{stays_justified as law}
use Rattle.sl_laws.proofs.theorems.stays_justified.Goals as goal

pub returns : goal.returns
returns c = λ market ok. law market (well_formed market ok)
