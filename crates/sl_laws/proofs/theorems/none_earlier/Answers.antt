use Rattle.sl_types.proofs.Faultless.{well_formed}
use Rattle.sl_laws.proofs.Earlier.{none_earlier as law}
use Rattle.sl_laws.proofs.theorems.none_earlier.Goals as goal

pub returns : goal.returns
returns c = λ market ok. law market (well_formed market ok)
