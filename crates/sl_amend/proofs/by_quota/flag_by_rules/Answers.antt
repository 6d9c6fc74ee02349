use Rattle.std.proofs.Common.{◌<◌, length, arith}
use Rattle.sl_amend.specs.Touched.{touched_by_quota}
use Rattle.sl_amend.proofs.Done.{done_hit, done_miss}
use Rattle.sl_amend.proofs.by_quota.flag_by_rules.Goals as goal
use Rattle.sl_amend.proofs.by_quota.flag_by_rules.Goals.{then-is_touched_by_quota, else-is_touched_by_quota}

pub loop-number-preserved : goal.loop-number-preserved
loop-number-preserved c =
    let test = touched_by_quota c.args.old.now c.args.new.now in
    let n_in : c.loop-number.number < length c.loop-number.flags = omega arith in
    elim c.if-is_touched_by_quota.branch [
      | then-is_touched_by_quota w ↦ done_hit test c.loop-number.number c.args.flags.now c.loop-number.flags c.if-is_touched_by_quota.flags c.loop-number.invariant n_in w.if-is_touched_by_quota.ensures w.flags-is
      | else-is_touched_by_quota w ↦ done_miss test c.loop-number.number c.args.flags.now c.loop-number.flags c.if-is_touched_by_quota.flags c.loop-number.invariant w.if-is_touched_by_quota.ensures w.flags-is
    ]
