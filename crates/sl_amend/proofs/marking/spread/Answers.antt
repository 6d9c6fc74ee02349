use Rattle.std.proofs.Common.{arith}
use Rattle.std.proofs.lemmas.List.{nil_from_length}
use Rattle.sl_amend.proofs.Spreading.{spread_start, last_in, spread_turn, spread_end}
use Rattle.sl_amend.proofs.marking.spread.Goals as goal

pub loop-pool-init : goal.loop-pool-init
loop-pool-init c = spread_start c.args.old.now c.args.new.now c.pools-old_pools.ensures.well_formed c.pools-new_pools.ensures.well_formed c.requires.amended c.args.flags.now c.in_ok-todo.todo.items c.requires.sizes c.in_ok-todo.ensures.flagged c.in_ok-todo.ensures.listed

pub flag_fed-requires-clause-within : goal.flag_fed-requires-clause-within
flag_fed-requires-clause-within c = last_in c.args.old.now c.args.new.now c.pools-old_pools.ensures.well_formed c.pools-new_pools.ensures.well_formed c.requires.amended c.args.flags.now c.loop-pool.flags c.loop-pool.todo.items c.pop.new.self.items c.in-Some.pool c.loop-pool.invariant c.in-Some.ensures.items

pub loop-pool-preserved : goal.loop-pool-preserved
loop-pool-preserved c = spread_turn c.args.old.now c.args.new.now c.pools-old_pools.ensures.well_formed c.pools-new_pools.ensures.well_formed c.requires.amended c.args.flags.now c.loop-pool.flags c.flag_fed.new.flags c.loop-pool.todo.items c.pop.new.self.items c.flag_fed.new.todo.items c.in-Some.pool c.loop-pool.invariant c.in-Some.ensures.items
    c.in_ok-flag_fed.ensures.fed c.in_ok-flag_fed.ensures.grown

pub returns-clause-reached : goal.returns-clause-reached
returns-clause-reached c = spread_end c.args.old.now c.args.new.now c.pools-old_pools.ensures.well_formed c.pools-new_pools.ensures.well_formed c.requires.amended c.args.flags.now c.loop-pool.flags c.loop-pool.todo.items c.loop-pool.invariant (nil_from_length c.loop-pool.todo.items (let h = c.in_default.ensures.cases in omega (arith, h.0)))
