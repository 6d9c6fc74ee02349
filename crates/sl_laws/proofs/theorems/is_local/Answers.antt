use Rattle.sl_types.proofs.Faultless.{well_formed}
use Rattle.sl_laws.proofs.Local.{is_local as law}
use Rattle.sl_laws.proofs.theorems.is_local.Goals as goal

pub returns : goal.returns
returns c = λ market ok. law market (well_formed market ok)
