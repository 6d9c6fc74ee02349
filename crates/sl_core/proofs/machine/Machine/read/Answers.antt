use Rattle.std.proofs.Common.{◌≡◌, ◌<◌, true, length, sym, ◌∙◌, ap, subst, arith}
use Rattle.sl_core.specs.State.{Run, actor_at}
use Rattle.sl_core.specs.Machine.{may_read, actor_after_read}
use Rattle.sl_core.proofs.Running.{read_runs, read_within, number_at}
use Rattle.sl_core.proofs.machine.Machine.read.Goals as goal

pub invariant_of-self : goal.invariant_of-self
invariant_of-self c =
    let inside : c.args.at < length c.self.inside.workers.items = subst (λ (r : Run). c.args.at < length r.state.actors) (sym c.self.view_is) c.requires.within in
    let market = c.self.inside.instance.now in
    let may = subst (λ (r : Run). may_read r.market (actor_at r.state c.args.at).phase (actor_at r.state c.args.at) c.args.pool.0 ≡ true) (sym c.self.view_is) c.requires.may in
    let wide = c.self.invariant.sized.limits in
    let within = read_within market (actor_at (record { limits = c.self.inside.limits.items; flags = c.self.inside.flags.items; ticket = c.self.inside.ticket; actors = c.self.inside.workers.items }) c.args.at).phase (actor_at (record { limits = c.self.inside.limits.items; flags = c.self.inside.flags.items; ticket = c.self.inside.ticket; actors = c.self.inside.workers.items }) c.args.at) c.args.pool.0 may in
    let old = c.index_mut.result.now in
    read_runs c.self.inside.instance.now c.self.inside.limits.items c.self.inside.flags.items c.self.inside.ticket c.self.inside.workers.items c.self.invariant c.args.at inside old c.read.new.self c.index_mut.ensures.value
    c.pools-pools.ensures.well_formed c.args.pool may (c.read.ensures ∙ ap (actor_after_read market old.phase old c.args.pool.0) (number_at c.self.inside.limits.items c.args.pool.0 c.index-word.result.now (omega (arith, within, wide)) c.index-word.ensures))
