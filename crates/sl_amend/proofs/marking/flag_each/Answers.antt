use Rattle.std.proofs.Common.{◌<◌, length, List, arith, take_all, subst}
use Rattle.sl_types.specs.declared.kinds.PoolId.{PoolId}
use Rattle.sl_amend.specs.Flags.{AreFlagged}
use Rattle.sl_amend.proofs.Growing.{each_flagged, each_grown}
use Rattle.sl_amend.proofs.marking.flag_each.Goals as goal

pub loop-pool-preserved : goal.loop-pool-preserved
loop-pool-preserved c =
    let i_in : c.loop-pool.pool-index < length c.args.pools.now = omega arith in
    record {
      flagged = each_flagged c.loop-pool.flags c.flag.new.flags c.loop-pool.todo.items c.flag.new.todo.items c.args.pools.now c.loop-pool.pool-index _ i_in c.loop-pool.invariant.flagged c.in_ok-flag.ensures.flagged c.in_ok-flag.ensures.grown;
      grown = each_grown c.args.flags.now c.loop-pool.flags c.flag.new.flags c.args.todo.now.items c.loop-pool.todo.items c.flag.new.todo.items c.args.pools.now c.loop-pool.pool-index _ i_in c.loop-pool.invariant.grown c.in_ok-flag.ensures.grown;
    }

pub returns-clause-flagged : goal.returns-clause-flagged
returns-clause-flagged c = subst (λ (Qs : List PoolId). AreFlagged c.loop-pool.flags Qs) (take_all c.loop-pool.pool-index c.args.pools.now c.loop-pool-test.false) c.loop-pool.invariant.flagged
