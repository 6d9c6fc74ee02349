use Rattle.sl_types.proofs.Faultless.{well_formed}
use Rattle.sl_laws.proofs.Top.{justified_has_top as law}
use Rattle.sl_laws.proofs.theorems.justified_has_top.Goals as goal

pub returns : goal.returns
returns c = λ market ok. law market (well_formed market ok)
