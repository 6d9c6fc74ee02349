use Rattle.std.proofs.Common.{◌≡◌, sym, ap, ◌∙◌, subst}
use Rattle.sl_types.specs.Market.{Market}
use Rattle.sl_core.specs.declared.kinds.Phase.TheVariants.{Working}
use Rattle.sl_core.specs.Machine.{actor_after_read}
use Rattle.sl_floor.proofs.Settling.{first_phase}
use Rattle.sl_floor.proofs.tests.settling.read_own.Goals as goal

pub returns-clause-phase : goal.returns-clause-phase
returns-clause-phase g c =
    let same = c.requires.seat.market ∙ sym c.requires.instance in
    ap (λ z. z.view.actor.phase) c.read.ensures.seat
    ∙ subst (λ (m : Market). (actor_after_read m c.args.seat.now.view.actor.phase c.args.seat.now.view.actor c.args.pools.0.0 c.read.result).phase ≡ Working c.args.pools.0) (sym same)
    (first_phase c.args.instance.now c.args.seat.now.view.actor c.args.pools.0 c.args.pools.1.0 c.requires.phase c.requires.within.0 c.requires.within.1 c.differ.ensures c.feed.ensures c.requires.made c.read.result)
