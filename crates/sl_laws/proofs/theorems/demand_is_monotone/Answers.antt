use Rattle.sl_types.proofs.Faultless.{well_formed}
use Rattle.sl_laws.proofs.Score.{demand_is_monotone as law}
use Rattle.sl_laws.proofs.theorems.demand_is_monotone.Goals as goal

pub returns : goal.returns
returns c = λ market ok. law market (well_formed market ok)
