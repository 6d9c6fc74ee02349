use Rattle.std.proofs.Common.{◌∙◌, slice_index}
use Rattle.sl_laws.proofs.AllRules.{proves_the_least}
use Rattle.sl_check.proofs.Whole.{all_admissions, all_counts}
use Rattle.sl_check.proofs.Reached.{unsettled_at, limit_wrong_at, limits_proved}
use Rattle.sl_check.proofs.checking.check.Goals as goal

pub returns-in-Some-unsettled-clause-verdict : goal.returns-in-Some-unsettled-clause-verdict
returns-in-Some-unsettled-clause-verdict g c =
    unsettled_at c.args.instance.now c.args.raises.now c.args.limits.now c.first_unjust.new.replay (c.in_default.ensures.instance ∙ c.in_ok-replay.ensures.instance)
    c.in_default.ensures.first c.args.admitted.now c.args.counts.now c.in-Some-unsettled.pool c.in-Some-unsettled.ensures.lowest

pub returns-in-Some-wrong_limit-clause-verdict : goal.returns-in-Some-wrong_limit-clause-verdict
returns-in-Some-wrong_limit-clause-verdict g c =
    limit_wrong_at c.args.instance.now c.args.raises.now c.args.limits.now c.first_unjust.new.replay (c.in_default.ensures.instance ∙ c.in_ok-replay.ensures.instance)
    c.in_default.ensures.first c.args.admitted.now c.args.counts.now c.in-Some-wrong_limit.pool c.in_default-unsettled.ensures.lowest (rw (c.limits.ensures.limits, c.in_default-unsettled.ensures.same) at c.in-Some-wrong_limit.ensures)

pub returns-in-Some-wrong_admission-clause-verdict : goal.returns-in-Some-wrong_admission-clause-verdict
returns-in-Some-wrong_admission-clause-verdict g c = (
  limits_proved c.args.instance.now c.args.raises.now c.args.limits.now c.first_unjust.new.replay (c.in_default.ensures.instance ∙ c.in_ok-replay.ensures.instance)
      c.in_default.ensures.first c.in_default-unsettled.ensures.lowest (rw (c.limits.ensures.limits, c.in_default-unsettled.ensures.same) at c.in_default-wrong_limit.ensures),
  c.in-Some-wrong_admission.ensures,
)

pub returns-in-Some-miscounted-clause-verdict : goal.returns-in-Some-miscounted-clause-verdict
returns-in-Some-miscounted-clause-verdict g c =
    let admissions = all_admissions c.args.instance.now (slice_index c.args.limits.now) c.args.admitted.now c.requires.each_admission c.in_default-wrong_admission.ensures in (
      limits_proved c.args.instance.now c.args.raises.now c.args.limits.now c.first_unjust.new.replay (c.in_default.ensures.instance ∙ c.in_ok-replay.ensures.instance)
          c.in_default.ensures.first c.in_default-unsettled.ensures.lowest (rw (c.limits.ensures.limits, c.in_default-unsettled.ensures.same) at c.in_default-wrong_limit.ensures),
      admissions,
      rw c.in-Some-miscounted.is at (c.in_ok-miscounted.ensures (slice_index c.args.limits.now) admissions),
    )

pub returns-clause-verdict : goal.returns-clause-verdict
returns-clause-verdict g c =
    let admissions = all_admissions c.args.instance.now (slice_index c.args.limits.now) c.args.admitted.now c.requires.each_admission c.in_default-wrong_admission.ensures in (
      limits_proved c.args.instance.now c.args.raises.now c.args.limits.now c.first_unjust.new.replay (c.in_default.ensures.instance ∙ c.in_ok-replay.ensures.instance)
          c.in_default.ensures.first c.in_default-unsettled.ensures.lowest (rw (c.limits.ensures.limits, c.in_default-unsettled.ensures.same) at c.in_default-wrong_limit.ensures),
      admissions,
      all_counts c.args.instance.now (slice_index c.args.limits.now) c.args.counts.now c.requires.each_count (rw c.in_default-miscounted.is at (c.in_ok-miscounted.ensures (slice_index c.args.limits.now) admissions)),
    )

pub returns-clause-least : goal.returns-clause-least
returns-clause-least g c = λ yes.
    proves_the_least c.args.instance.now c.pools-pools.ensures.well_formed c.args.raises.now (slice_index c.args.limits.now)
    (limits_proved c.args.instance.now c.args.raises.now c.args.limits.now c.first_unjust.new.replay (c.in_default.ensures.instance ∙ c.in_ok-replay.ensures.instance)
    c.in_default.ensures.first c.in_default-unsettled.ensures.lowest (rw (c.limits.ensures.limits, c.in_default-unsettled.ensures.same) at c.in_default-wrong_limit.ensures))
