use Rattle.std.proofs.Common.{◌≡◌, ◌<◌, true, length, sym, subst}
use Rattle.sl_core.specs.State.{Run, actor_at}
use Rattle.sl_core.specs.Machine.{still_owes}
use Rattle.sl_core.proofs.Running.{mark_runs}
use Rattle.sl_core.proofs.machine.Machine.mark.Goals as goal

pub invariant_of-self : goal.invariant_of-self
invariant_of-self c =
    let inside : c.args.at < length c.self.inside.workers.items = subst (λ (r : Run). c.args.at < length r.state.actors) (sym c.self.view_is) c.requires.within in
    let may = subst (λ (r : Run). still_owes (actor_at r.state c.args.at).phase (actor_at r.state c.args.at).owed c.args.pool.0 ≡ true) (sym c.self.view_is) c.requires.may in
    mark_runs c.self.inside.instance.now c.self.inside.limits.items c.self.inside.flags.items c.self.inside.ticket c.self.inside.workers.items c.self.invariant c.args.at inside c.index_mut-2.result.now c.mark.new.self c.index_mut-2.ensures.value
    c.args.pool may c.mark.ensures
