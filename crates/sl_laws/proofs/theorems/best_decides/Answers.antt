use Rattle.sl_types.proofs.Faultless.{well_formed}
use Rattle.sl_laws.proofs.Best.{best_decides as law}
use Rattle.sl_laws.proofs.theorems.best_decides.Goals as goal

pub returns : goal.returns
returns c = λ market ok. law market (well_formed market ok)
