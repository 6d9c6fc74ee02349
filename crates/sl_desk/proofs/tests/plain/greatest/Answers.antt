use Rattle.std.proofs.Common.{ℕ, ◌+◌, ◌-◌, ◌/◌, true≢false, slice_index, sym, ◌∙◌, arith}
use Rattle.sl_core.proofs.Finding.{best_top, reaches, passes_by}
use Rattle.sl_desk.proofs.Best.{best_is}
use Rattle.sl_desk.proofs.tests.plain.greatest.Goals as goal

pub loop-high-init : goal.loop-high-init
loop-high-init c =
    let top = best_top c.args.instance.now c.pools-pools.ensures.well_formed (slice_index c.args.reads.now) c.args.pool.0 c.requires.within in
    record { apart = omega arith; reached = omega arith; below = omega (arith, top) }

pub loop-high-preserved-then-plain_justified : goal.loop-high-preserved-then-plain_justified
loop-high-preserved-then-plain_justified c =
    let middle : ℕ = c.loop-high.low + (c.loop-high.high - c.loop-high.low) / 2 in
    let just = c.plain_justified.ensures.0 c.if-plain_justified.true in
    let low = reaches c.args.instance.now c.pools-pools.ensures.well_formed (slice_index c.args.reads.now) c.args.pool.0 middle c.requires.within (omega arith) just in
    record { apart = omega arith; reached = low; below = c.loop-high.invariant.below }

pub loop-high-preserved : goal.loop-high-preserved
loop-high-preserved c =
    let middle : ℕ = c.loop-high.low + (c.loop-high.high - c.loop-high.low) / 2 in
    let low = passes_by c.args.instance.now c.pools-pools.ensures.well_formed (slice_index c.args.reads.now) c.args.pool.0 middle c.requires.within (omega arith)
    (λ just. true≢false (sym (c.plain_justified.ensures.1 just) ∙ c.if-plain_justified.false)) in
    record { apart = omega arith; reached = c.loop-high.invariant.reached; below = low }

pub returns : goal.returns
returns c =
    let here = c.loop-high.invariant in let reached = here.reached in let below = here.below in
    best_is c.args.instance.now c.pools-pools.ensures.valid (slice_index c.args.reads.now) c.args.pool.0 c.loop-high.low c.requires.within (omega (arith, reached, below))
