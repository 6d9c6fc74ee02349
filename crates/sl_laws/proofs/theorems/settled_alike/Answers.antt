use Rattle.sl_types.proofs.Faultless.{well_formed}
use Rattle.sl_laws.proofs.Alike.{settled_alike as law}
use Rattle.sl_laws.proofs.theorems.settled_alike.Goals as goal

pub returns : goal.returns
returns c = λ market ok. law market (well_formed market ok)
