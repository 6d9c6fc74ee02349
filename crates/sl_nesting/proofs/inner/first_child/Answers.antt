use Rattle.std.proofs.Common.{◌<◌, ◌∙◌, length, sym, arith}
use Rattle.sl_nesting.proofs.Next.{is_next, is_skipped}
use Rattle.sl_nesting.proofs.inner.first_child.Goals as goal

pub returns-then-is_child-clause-first : goal.returns-then-is_child-clause-first
returns-then-is_child-clause-first c =
    let lt : c.loop-at.at < length c.args.instance.now.pools = omega (arith, c.pools-at-end.ensures.count) in
    record { within = lt; first = sym c.loop-at.invariant ∙ is_next c.args.instance.now c.args.pool.0 c.loop-at.at lt (sym c.is_child.ensures ∙ c.if-is_child.true) }

pub loop-at-preserved : goal.loop-at-preserved
loop-at-preserved c =
    let lt : c.loop-at.at < length c.args.instance.now.pools = omega (arith, c.pools-at-end.ensures.count) in
    sym (is_skipped c.args.instance.now c.args.pool.0 c.loop-at.at lt (sym c.is_child.ensures ∙ c.if-is_child.false)) ∙ c.loop-at.invariant
