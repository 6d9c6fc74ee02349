use Rattle.sl_gen.proofs.Fits.{fits}
use Rattle.sl_gen.proofs.theorems.generated_fits.Goals as goal

pub returns : goal.returns
returns c = fits
