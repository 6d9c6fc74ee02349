use Rattle.std.proofs.Common.{arith}
use Rattle.sl_floor.proofs.Changes.{scan_all}
use Rattle.sl_floor.proofs.pool_set.PoolSet.copy_from.Goals as goal

pub returns : goal.returns
returns c = let count = c.pools-at-end.ensures in scan_all c.args.bare c.args.other.now c.loop-at.self c.args.self.now c.loop-at.at c.requires (omega (arith, count)) c.loop-at.invariant
