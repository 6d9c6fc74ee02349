use Rattle.sl_team.proofs.Watched.{bare_none}
use Rattle.sl_team.proofs.watching.seat_reader.Goals as goal

pub returns-clause-bare : goal.returns-clause-bare
returns-clause-bare c = bare_none c.split.result.view c.behind-crew.inside.seat.view c.split.ensures.view
