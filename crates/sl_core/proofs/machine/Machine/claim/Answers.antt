use Rattle.std.proofs.Common.{◌≡◌, ◌<◌, true, length, sym, ◌∙◌, ap, subst}
use Rattle.std.proofs.Common.{false, get_or}
use Rattle.sl_core.specs.State.{Run, actor_at}
use Rattle.sl_core.specs.Machine.{may_claim, actor_after_claim}
use Rattle.sl_core.proofs.Running.{claim_runs}
use Rattle.sl_core.proofs.machine.Machine.claim.Goals as goal

pub invariant_of-self : goal.invariant_of-self
invariant_of-self c =
    let inside : c.args.at < length c.self.inside.workers.items = subst (λ (r : Run). c.args.at < length r.state.actors) (sym c.self.view_is) c.requires.within in
    let may = subst (λ (r : Run). may_claim (actor_at r.state c.args.at) c.args.pool.0 ≡ true) (sym c.self.view_is) c.requires.may in
    let up = c.has_pool-was_up.ensures ∙ ap (λ l. get_or l c.args.pool.0 false) c.deref.ensures.value in
    claim_runs c.self.inside.instance.now c.self.inside.limits.items c.self.inside.flags.items c.self.inside.ticket c.self.inside.workers.items c.self.invariant c.args.at inside c.index_mut-2.result.now c.claim.new.self c.index_mut-2.ensures.value
    c.args.pool may (c.claim.ensures ∙ ap (λ b. actor_after_claim c.self.inside.instance.now b c.index_mut-2.result.now c.args.pool) up)
