use Rattle.sl_types.proofs.Faultless.{well_formed}
use Rattle.sl_laws.proofs.AllRules.{proves_the_least as law}
use Rattle.sl_laws.proofs.theorems.proves_the_least.Goals as goal

pub returns : goal.returns
returns c = λ market ok. law market (well_formed market ok)
