use Rattle.std.proofs.Common.{ℕ, ◌<◌, ◌∙◌, true, length, nat_eq, set, arith, ap, refl, sym}
use Rattle.sl_amend.specs.Touched.{differs_under}
use Rattle.sl_amend.proofs.Flagged.{range_step, flagged_as, flagged_one, flagged_not}
use Rattle.sl_amend.proofs.SameTree.{differs_hit, differs_miss}
use Rattle.sl_amend.proofs.by_quota.mark_trees.Goals as goal
use Rattle.sl_amend.proofs.by_quota.mark_trees.Goals.{then-pool, else-pool}

pub loop-number-preserved : goal.loop-number-preserved
loop-number-preserved c =
    let old = c.args.old.now in
    let new = c.args.new.now in
    let n = c.loop-number.number in
    let at_n = λ (R : ℕ). differs_under old new R n in
    let pools = length old.pools in
    range_step (differs_under old new) n pools c.args.marks.now c.loop-number.marks c.if-pool.marks c.loop-number.invariant (elim c.if-pool.branch [
      | then-pool w ↦
          let R : ℕ = w.outermost.result.0 in
          let low = w.outermost.ensures.within in
          let R_in : R < length c.loop-number.marks = omega (arith, low) in
          let is = λ (P : ℕ). differs_hit old new n c.pool-in-loop-number.result.now c.pool.result.now c.pool-in-loop-number.ensures.value c.pool.ensures.value w.if-pool.true P ∙ ap (λ (k : ℕ). nat_eq k P) (sym w.outermost.ensures.value) in
          flagged_as at_n at_n pools c.loop-number.marks (set c.loop-number.marks R true) c.if-pool.marks (flagged_one at_n pools c.loop-number.marks R R_in is) w.marks-is (λ P. refl)
      | else-pool w ↦
          let never = differs_miss old new n c.pool-in-loop-number.result.now c.pool.result.now c.pool-in-loop-number.ensures.value c.pool.ensures.value w.if-pool.false in
          flagged_as at_n at_n pools c.loop-number.marks c.loop-number.marks c.if-pool.marks (flagged_not at_n pools c.loop-number.marks never) w.marks-is (λ P. refl)
    ])
