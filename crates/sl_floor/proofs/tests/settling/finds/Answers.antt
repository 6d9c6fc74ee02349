use Rattle.sl_floor.proofs.Settling.{found_ready}
use Rattle.sl_floor.proofs.tests.settling.finds.Goals as goal

pub returns : goal.returns
returns g c = found_ready c.args.instance.now c.pools-pools.ensures.well_formed c.args.at c.args.reads.now c.args.x c.requires.within c.justify.ensures.some c.justify.ensures.justified c.justify_no_more.ensures.no_more c.justify_no_more.ensures.above
