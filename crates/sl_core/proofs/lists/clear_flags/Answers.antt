use Rattle.std.proofs.Common.{false, length, refl, arith}
use Rattle.sl_core.proofs.Filling.{filled_more, all_filled}
use Rattle.sl_core.proofs.lists.clear_flags.Goals as goal

pub loop-at-preserved : goal.loop-at-preserved
loop-at-preserved c = filled_more c.loop-at.flags c.loop-at.at (λ _. false) false false (omega arith) refl c.loop-at.invariant

pub returns : goal.returns
returns c = all_filled c.loop-at.flags c.loop-at.at (length c.args.flags.now) false false (omega arith) (omega arith) c.loop-at.invariant
