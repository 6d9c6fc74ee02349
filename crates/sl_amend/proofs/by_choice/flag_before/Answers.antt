use Rattle.std.proofs.Common.{length}
use Rattle.sl_contend.specs.Contention.{has_choice_in}
use Rattle.sl_amend.specs.Touched.{is_off_before}
use Rattle.sl_amend.proofs.Flagged.{range_step, flagged_as, flagged_not, off_before_hit, off_before_miss}
use Rattle.sl_amend.proofs.by_choice.flag_before.Goals as goal
use Rattle.sl_amend.proofs.by_choice.flag_before.Goals.{then-not-still-number, else-not-still-number}

pub loop-number-preserved : goal.loop-number-preserved
loop-number-preserved c =
    let old = c.args.old.now in
    let still = c.args.still.now in
    let n = c.loop-number.number in
    range_step (is_off_before old still) n (length old.pools) c.args.flags.now c.loop-number.flags c.if-not-still-number.flags c.loop-number.invariant (elim c.if-not-still-number.branch [
      | then-not-still-number w ↦ flagged_as (λ P. has_choice_in old w.list.result.now P) (λ P. is_off_before old still P n) (length old.pools) c.loop-number.flags w.flag_choices.new.flags c.if-not-still-number.flags w.flag_choices.ensures.flagged w.flags-is
          (off_before_hit old still n w.list.result.now w.if-not-still-number.true w.list.ensures.value)
      | else-not-still-number w ↦ flagged_as (λ P. is_off_before old still P n) (λ P. is_off_before old still P n) (length old.pools) c.loop-number.flags c.loop-number.flags c.if-not-still-number.flags
          (flagged_not (λ P. is_off_before old still P n) (length old.pools) c.loop-number.flags (off_before_miss old still n w.if-not-still-number.false)) w.flags-is (λ P. Rattle.std.proofs.Common.refl)
    ])
