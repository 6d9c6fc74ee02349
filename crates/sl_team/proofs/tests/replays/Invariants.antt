use Rattle.std.proofs.Common.{◌≡◌}
use Rattle.sl_team.proofs.tests.replays.Given as goal

abbrev pub invariant-loop-raise : goal.invariant-loop-raise
invariant-loop-raise g l = l.replay.instance ≡ l.instance

abbrev pub invariant-loop-pool : goal.invariant-loop-pool
invariant-loop-pool g l = l.replay.instance ≡ l.instance
