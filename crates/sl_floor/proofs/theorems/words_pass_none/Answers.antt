use Rattle.sl_types.proofs.Faultless.{well_formed}
use Rattle.sl_core.proofs.Steps.{words_pass_none as law}
use Rattle.sl_floor.specs.Rule.{state_of}
use Rattle.sl_floor.proofs.theorems.words_pass_none.Goals as goal

pub returns : goal.returns
returns c = λ market kept s r. law market (well_formed market r.valid) kept (state_of market s.words s.views) r.parts
