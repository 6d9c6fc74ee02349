use Rattle.std.proofs.Common.{rules}
use Rattle.std.specs.Prelude.{slice_index}
use Rattle.sl_laws.specs.Stable.{IsSettled}
use Rattle.sl_floor.proofs.Settling.{found_idle}
use Rattle.sl_floor.proofs.tests.settling.best.Goals as goal

pub returns-then-plain_settled-clause-none : goal.returns-then-plain_settled-clause-none
returns-then-plain_settled-clause-none g c =
    let settled : IsSettled c.args.instance.now (slice_index c.args.reads.now) c.args.at.0 = search rules in
    found_idle c.args.instance.now c.pools-pools.ensures.well_formed c.args.at c.args.reads.now c.requires.within settled
