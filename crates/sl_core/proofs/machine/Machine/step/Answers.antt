use Rattle.std.proofs.Common.{rules, [], subst}
use Rattle.sl_types.specs.WellFormed.{IsWellFormed}
use Rattle.sl_core.specs.State.{Run}
use Rattle.sl_core.specs.Parts.{HasParts}
use Rattle.sl_core.proofs.Steps.{run_keeps}
use Rattle.sl_core.proofs.machine.Machine.step.Goals as goal

pub returns-clause-parts : goal.returns-clause-parts
returns-clause-parts c =
    let run : Run = c.args.self.now in
    let ok = subst (λ (r : Run). IsWellFormed r.market) c.self.view_is c.pools-pools.ensures.well_formed in
    let parts = subst (λ (r : Run). HasParts r.market [] r.state) c.self.view_is c.self.invariant in
    run_keeps run c.act.new.self ok parts c.args.event (search rules) c.in_ok-act.ensures.acted
