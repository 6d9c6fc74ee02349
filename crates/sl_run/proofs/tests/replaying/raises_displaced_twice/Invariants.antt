use Rattle.std.proofs.Common.{◌≡◌}
use Rattle.sl_run.proofs.tests.replaying.raises_displaced_twice.Given as goal

abbrev pub invariant-loop-pool : goal.invariant-loop-pool
invariant-loop-pool g l = l.replay.instance ≡ l.initial.replay.instance

abbrev pub invariant-loop-pool-2 : goal.invariant-loop-pool-2
invariant-loop-pool-2 g l = l.replay.instance ≡ l.initial.replay.instance
