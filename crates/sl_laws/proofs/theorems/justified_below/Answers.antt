use Rattle.sl_types.proofs.Faultless.{well_formed}
use Rattle.sl_laws.proofs.Score.{justified_below as law}
use Rattle.sl_laws.proofs.theorems.justified_below.Goals as goal

pub returns : goal.returns
returns c = λ market ok. law market (well_formed market ok)
