use Rattle.std.proofs.Common.{◌∙◌}
use Rattle.sl_amend.specs.Amended.{origins_of}
use Rattle.sl_amend.proofs.Whole.{cone_flags}
use Rattle.sl_amend.proofs.keeping.flag_cone.Goals as goal

pub returns-clause-cone : goal.returns-clause-cone
returns-clause-cone c = cone_flags c.args.old.now c.args.new.now c.pools-old_pools.ensures.well_formed c.pools-new_pools.ensures.well_formed c.requires.amended (origins_of c.args.origins.now) c.args.flags.now c.flag_touched.new.flags c.spread.new.flags
    c.requires.fresh (c.in_ok-flag_touched.ensures.each ∙ c.requires.sizes) c.in_ok-flag_touched.ensures.touched c.in_ok-spread.ensures.reached
