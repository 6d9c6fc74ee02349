use Rattle.std.proofs.Common.{length, refl, arith}
use Rattle.sl_core.proofs.Filling.{filled_more, all_filled}
use Rattle.sl_core.proofs.lists.clear_numbers.Goals as goal

pub loop-at-preserved : goal.loop-at-preserved
loop-at-preserved c = filled_more c.loop-at.numbers c.loop-at.at (λ _. 0) 0 0 (omega arith) refl c.loop-at.invariant

pub returns : goal.returns
returns c = all_filled c.loop-at.numbers c.loop-at.at (length c.args.numbers.now) 0 0 (omega arith) (omega arith) c.loop-at.invariant
