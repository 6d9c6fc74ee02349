use Rattle.sl_types.proofs.Faultless.{well_formed}
use Rattle.sl_laws.proofs.AllRules.{deciding_is_justified as law}
use Rattle.sl_laws.proofs.theorems.deciding_is_justified.Goals as goal

pub returns : goal.returns
returns c = λ market ok. law market (well_formed market ok)
