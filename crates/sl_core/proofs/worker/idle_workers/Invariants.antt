use Rattle.std.proofs.Common.{◌≡◌, replicate}
use Rattle.sl_core.specs.State.{unread_actor}
use Rattle.sl_core.proofs.worker.idle_workers.Given as goal

abbrev pub invariant-loop : goal.invariant-loop
invariant-loop l = l.workers.items ≡ replicate l.counter (unread_actor l.pools)
