use Rattle.std.proofs.Common.{subst, []}
use Rattle.sl_laws.specs.Stable.{IsStable}
use Rattle.sl_core.specs.State.{Run}
use Rattle.sl_core.specs.Laws.{AreAtMost}
use Rattle.sl_core.proofs.Steps.{words_pass_none}
use Rattle.sl_core.proofs.machine.Machine.limits.Goals as goal

pub returns-clause-low : goal.returns-clause-low
returns-clause-low c = λ l. subst (λ (r : Run). IsStable r.market l → AreAtMost r.state l) c.self.view_is
    (λ stable. words_pass_none c.self.inside.instance.now c.pools-pools.ensures.well_formed [] (record { limits = c.self.inside.limits.items; flags = c.self.inside.flags.items; ticket = c.self.inside.ticket; actors = c.self.inside.workers.items }) c.self.invariant l stable)
