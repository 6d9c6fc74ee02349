use Rattle.std.proofs.Common.{◌≡◌, ◌<◌, true, length, sym, subst}
use Rattle.sl_core.specs.State.{Run, actor_at}
use Rattle.sl_core.specs.Machine.{may_draw}
use Rattle.sl_core.proofs.Running.{draw_runs}
use Rattle.sl_core.proofs.machine.Machine.draw.Goals as goal

pub invariant_of-self-2 : goal.invariant_of-self-2
invariant_of-self-2 c =
    let inside : c.args.at < length c.self.inside.workers.items = subst (λ (r : Run). c.args.at < length r.state.actors) (sym c.self.view_is) c.requires.within in
    let may = subst (λ (r : Run). may_draw (actor_at r.state c.args.at).phase c.args.x ≡ true) (sym c.self.view_is) c.requires.may in
    draw_runs c.self.inside.instance.now c.self.inside.limits.items c.self.inside.flags.items c.self.inside.ticket c.self.inside.workers.items c.self.invariant c.args.at inside c.index_mut.result.now c.draw.new.self c.index_mut.ensures.value
    c.pools-pools.ensures.well_formed c.args.x c.in-Some.next may c.in-Some.ensures.1 c.in_ok-draw.ensures.drawn
