use Rattle.std.proofs.Common.{arith}
use Rattle.sl_floor.proofs.Changes.{either_all}
use Rattle.sl_floor.proofs.pool_set.PoolSet.unite.Goals as goal

pub returns : goal.returns
returns c = let count = c.pools-at-end.ensures in either_all c.args.other.now c.loop-at.self c.args.self.now c.loop-at.at c.requires (omega (arith, count)) c.loop-at.invariant
