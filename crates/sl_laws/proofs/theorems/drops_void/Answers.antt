use Rattle.sl_types.proofs.Faultless.{well_formed}
use Rattle.sl_laws.proofs.AllRules.{drops_void as law}
use Rattle.sl_laws.proofs.theorems.drops_void.Goals as goal

pub returns : goal.returns
returns c = λ market ok. law market (well_formed market ok)
