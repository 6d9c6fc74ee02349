use Rattle.sl_team.proofs.Watched.{looked_of}
use Rattle.sl_team.proofs.seen.look_into.Goals as goal

pub returns-clause-looked : goal.returns-clause-looked
returns-clause-looked c =
    looked_of c.args.floor.now c.args.seat.now c.look.new.seat c.look.new.out c.look.ensures.looks c.look.ensures.rises c.look.ensures.steps c.look.ensures.each c.look.ensures.top c.look.ensures.low
