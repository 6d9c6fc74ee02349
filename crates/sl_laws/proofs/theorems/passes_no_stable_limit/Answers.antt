use Rattle.sl_types.proofs.Faultless.{well_formed}
use Rattle.sl_laws.proofs.AllRules.{passes_no_stable_limit as law}
use Rattle.sl_laws.proofs.theorems.passes_no_stable_limit.Goals as goal

pub returns : goal.returns
returns c = λ market ok. law market (well_formed market ok)
