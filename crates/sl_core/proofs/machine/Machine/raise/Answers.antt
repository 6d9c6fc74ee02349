use Rattle.std.proofs.Common.{ℕ, ◌<◌, max, length, sym, ◌∙◌, ap, subst}
use Rattle.sl_core.specs.State.{Actor, Run}
use Rattle.sl_core.specs.Machine.{actor_after_raise}
use Rattle.sl_core.proofs.Running.{actor_is, number_at, drawn_within, raise_runs}
use Rattle.sl_core.proofs.machine.Machine.raise.Goals as goal

pub invariant_of-self : goal.invariant_of-self
invariant_of-self c =
    let inside : c.args.at < length c.self.inside.workers.items = subst (λ (r : Run). c.args.at < length r.state.actors) (sym c.self.view_is) c.requires.within in
    let P = c.in-Drawn.pool in let x : ℕ = c.in-Drawn.x in
    let old = c.index_mut-in-Drawn.result.now in
    let here = ap (λ (a : Actor). a.phase) (sym (actor_is c.self.inside.workers.items c.args.at c.index.result.now inside c.index.ensures)) ∙ (sym c.phase.ensures ∙ c.in-Drawn.is) in
    let within = drawn_within c.self.inside.instance.now c.self.inside.limits.items c.self.inside.flags.items c.self.inside.ticket c.self.inside.workers.items c.self.invariant c.args.at inside old c.raise.new.self c.index_mut-in-Drawn.ensures.value P x here in
    let word = number_at c.self.inside.limits.items P.0 c.index-word.result.now within c.index-word.ensures in
    raise_runs c.self.inside.instance.now c.self.inside.limits.items c.self.inside.flags.items c.self.inside.ticket c.self.inside.workers.items c.self.invariant c.args.at inside old c.raise.new.self c.index_mut-in-Drawn.ensures.value
    c.pools-pools.ensures.well_formed P x c.max.result here (c.max.ensures ∙ ap (λ (w : ℕ). max w x) word) (c.raise.ensures ∙ ap (actor_after_raise c.self.inside.instance.now P x old) word)
