use Rattle.sl_gen.proofs.Sizes.{sizes}
use Rattle.sl_gen.proofs.theorems.generated_sizes.Goals as goal

pub returns : goal.returns
returns c = sizes
