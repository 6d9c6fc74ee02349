use Rattle.std.proofs.Common.{length, get_or, Option, None, refl}
use Rattle.sl_types.specs.declared.kinds.AppId.{AppId}
use Rattle.sl_contend.specs.Contention.{has_choice_in}
use Rattle.sl_amend.specs.Amended.{origins_of}
use Rattle.sl_amend.specs.Touched.{is_off_after}
use Rattle.sl_amend.proofs.Flagged.{range_step, flagged_as, flagged_not, none_from, off_after_none, off_after_hit, off_after_miss}
use Rattle.sl_amend.proofs.by_choice.flag_after.Goals as goal
use Rattle.sl_amend.proofs.by_choice.flag_after.Goals.{then-not-still-app, else-not-still-app}

pub loop-number-preserved-in_default : goal.loop-number-preserved-in_default
loop-number-preserved-in_default c =
    let new = c.args.new.now in
    let was = origins_of c.args.origins.now in
    let still = c.args.still.now in
    let n = c.loop-number.number in
    let origin : Option AppId = get_or c.args.origins.now n None in
    range_step (is_off_after new was still) n (length new.pools) c.args.flags.now c.loop-number.flags c.loop-number.flags c.loop-number.invariant
    (flagged_not (λ P. is_off_after new was still P n) (length new.pools) c.loop-number.flags (off_after_none new c.args.origins.now still n (none_from origin c.in_default.not-Some)))

pub loop-number-preserved : goal.loop-number-preserved
loop-number-preserved c =
    let new = c.args.new.now in
    let was = origins_of c.args.origins.now in
    let still = c.args.still.now in
    let n = c.loop-number.number in
    range_step (is_off_after new was still) n (length new.pools) c.args.flags.now c.loop-number.flags c.if-not-still-app.flags c.loop-number.invariant (elim c.if-not-still-app.branch [
      | then-not-still-app w ↦ flagged_as (λ P. has_choice_in new w.list.result.now P) (λ P. is_off_after new was still P n) (length new.pools) c.loop-number.flags w.flag_choices.new.flags c.if-not-still-app.flags w.flag_choices.ensures.flagged w.flags-is
          (off_after_hit new c.args.origins.now still n c.in-Some.app w.list.result.now c.in-Some.is w.if-not-still-app.true w.list.ensures.value)
      | else-not-still-app w ↦ flagged_as (λ P. is_off_after new was still P n) (λ P. is_off_after new was still P n) (length new.pools) c.loop-number.flags c.loop-number.flags c.if-not-still-app.flags
          (flagged_not (λ P. is_off_after new was still P n) (length new.pools) c.loop-number.flags (off_after_miss new c.args.origins.now still n c.in-Some.app c.in-Some.is w.if-not-still-app.false)) w.flags-is (λ P. refl)
    ])
