use Rattle.sl_types.proofs.Faultless.{well_formed}
use Rattle.sl_laws.proofs.Relaxed.{under_l_is_lower as law}
use Rattle.sl_laws.proofs.theorems.limits_under_l_are_lower.Goals as goal

pub returns : goal.returns
returns c = λ market relaxed ok relaxed_ok. law market relaxed (well_formed market ok) (well_formed relaxed relaxed_ok)
