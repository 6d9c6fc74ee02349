use Rattle.sl_team.specs.Rounds.{IsBetween, rounds_within}
use Rattle.sl_team.proofs.rounds.all_rounds.Given as goal

abbrev pub invariant-rounds : goal.invariant-rounds
invariant-rounds g l = IsBetween l.floor l.room l.gathered.items l.crew.items l.spares.items

abbrev pub decreases-rounds : goal.decreases-rounds
decreases-rounds g l = rounds_within l.crew.items
