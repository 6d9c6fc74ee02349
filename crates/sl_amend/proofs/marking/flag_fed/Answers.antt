use Rattle.sl_amend.proofs.Spreading.{fed_both}
use Rattle.sl_amend.proofs.marking.flag_fed.Goals as goal

pub returns : goal.returns
returns c =
    let both = fed_both c.args.old.now c.args.new.now c.pools-old_pools.ensures.well_formed c.pools-new_pools.ensures.well_formed c.args.flags.now c.flag_each.new.flags c.flag_each-2.new.flags
    c.args.todo.now.items c.flag_each.new.todo.items c.flag_each-2.new.todo.items c.fed.result.now c.fed-2.result.now c.args.pool.0
    (c.fed.ensures.fed c.args.old.now c.requires.old_contenders) (c.fed-2.ensures.fed c.args.new.now c.requires.new_contenders)
    c.in_ok-flag_each.ensures.flagged c.in_ok-flag_each.ensures.grown c.in_ok-flag_each-2.ensures.flagged c.in_ok-flag_each-2.ensures.grown in
    record { fed = both.0; grown = both.1 }
