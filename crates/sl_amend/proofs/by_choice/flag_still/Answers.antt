use Rattle.std.proofs.Common.{◌<◌, length, get_or, arith, Option, None, true, false}
use Rattle.sl_types.specs.declared.kinds.AppId.{AppId}
use Rattle.sl_amend.proofs.Flagged.{more_none, more_hit, more_miss, none_from, origin_in, same_of}
use Rattle.sl_amend.proofs.by_choice.flag_still.Goals as goal
use Rattle.sl_amend.proofs.by_choice.flag_still.Goals.{then-are_same, else-are_same}

pub loop-number-preserved-in_default : goal.loop-number-preserved-in_default
loop-number-preserved-in_default c =
    let origin : Option AppId = get_or c.args.origins.now c.loop-number.number None in
    more_none c.args.old.now c.args.new.now c.args.origins.now c.loop-number.number c.args.still.now c.loop-number.still c.loop-number.invariant (none_from origin c.in_default.not-Some)

pub loop-number-preserved : goal.loop-number-preserved
loop-number-preserved c =
    let old = c.args.old.now in
    let new = c.args.new.now in
    let n_in : c.loop-number.number < length c.args.origins.now = omega arith in
    let low : c.in-Some.app.0 < length old.lists = origin_in old c.args.origins.now c.loop-number.number c.in-Some.app c.requires.origins n_in c.in-Some.is in
    let x_in : c.in-Some.app.0 < length c.loop-number.still = omega (arith, low) in
    elim c.if-are_same.branch [
      | then-are_same w ↦ more_hit old new c.args.origins.now c.loop-number.number c.args.still.now c.loop-number.still c.if-are_same.still c.in-Some.app c.loop-number.invariant c.in-Some.is x_in
          (same_of true c.list.result.now c.list-in-loop-number.result.now _ _ w.if-are_same.ensures c.list.ensures.value c.list-in-loop-number.ensures.value) w.still-is
      | else-are_same w ↦ more_miss old new c.args.origins.now c.loop-number.number c.args.still.now c.loop-number.still c.if-are_same.still c.in-Some.app c.loop-number.invariant c.in-Some.is
          (same_of false c.list.result.now c.list-in-loop-number.result.now _ _ w.if-are_same.ensures c.list.ensures.value c.list-in-loop-number.ensures.value) w.still-is
    ]
