use Rattle.sl_types.proofs.Faultless.{well_formed}
use Rattle.sl_laws.proofs.AllRules.{sound_passes_none as law}
use Rattle.sl_laws.proofs.theorems.sound_passes_none.Goals as goal

pub returns : goal.returns
returns c = λ market ok. law market (well_formed market ok)
