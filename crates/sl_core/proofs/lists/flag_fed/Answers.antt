use Rattle.std.proofs.Common.{false, arith}
use Rattle.sl_laws.specs.Stable.{feeds}
use Rattle.sl_core.proofs.Filling.{filled_more, fed_filled}
use Rattle.sl_core.proofs.lists.flag_fed.Goals as goal

pub loop-at-preserved : goal.loop-at-preserved
loop-at-preserved c = filled_more c.loop-at.flags c.loop-at.at (λ Q. feeds c.args.instance.now c.args.pool.0 Q) false c.plain_feeds.result (omega arith) c.plain_feeds.ensures c.loop-at.invariant

pub returns : goal.returns
returns c = fed_filled c.args.instance.now c.args.pool.0 c.loop-at.at c.loop-at.flags (omega arith) (omega arith) c.loop-at.invariant
