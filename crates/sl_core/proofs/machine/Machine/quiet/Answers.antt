use Rattle.std.proofs.Common.{List, [], subst, sym, ◌∙◌}
use Rattle.std.specs.Prelude.{slice_index}
use Rattle.sl_types.specs.declared.kinds.Raise.{Raise}
use Rattle.sl_laws.specs.Limits.{effective_limit}
use Rattle.sl_laws.specs.Stable.{IsLeastStable}
use Rattle.sl_laws.specs.Raises.{Proves, without_void}
use Rattle.sl_core.specs.State.{Run}
use Rattle.sl_core.specs.Machine.{IsQuiet}
use Rattle.sl_core.specs.Parts.{AreInOrder}
use Rattle.sl_core.proofs.Quiet.{quiet_proves, quiet_is_least}
use Rattle.sl_core.proofs.machine.Machine.quiet.Goals as goal

pub returns-clause-proves : goal.returns-clause-proves
returns-clause-proves c = λ quiet. subst (λ (r : Run). IsQuiet r.state → (d : List Raise) → AreInOrder r.state d → Proves r.market (without_void r.market d) (effective_limit r.market (slice_index r.state.limits))) c.self.view_is
    (quiet_proves c.self.inside.instance.now c.pools-pools.ensures.well_formed []
    (record { limits = c.self.inside.limits.items; flags = c.self.inside.flags.items; ticket = c.self.inside.ticket; actors = c.self.inside.workers.items }) c.self.invariant) (sym c.is_quiet.ensures ∙ quiet)

pub returns-clause-least : goal.returns-clause-least
returns-clause-least c = λ quiet. subst (λ (r : Run). IsQuiet r.state → IsLeastStable r.market (effective_limit r.market (slice_index r.state.limits))) c.self.view_is
    (quiet_is_least c.self.inside.instance.now c.pools-pools.ensures.well_formed []
    (record { limits = c.self.inside.limits.items; flags = c.self.inside.flags.items; ticket = c.self.inside.ticket; actors = c.self.inside.workers.items }) c.self.invariant) (sym c.is_quiet.ensures ∙ quiet)
