use Rattle.std.proofs.Common.{◌∙◌, ap, length, slice_index}
use Rattle.std.proofs.lemmas.List.FromFn.{length-map-range_with_len}
use Rattle.sl_laws.specs.Limits.{effective_limit}
use Rattle.sl_admit.proofs.Reaching.{first_reaching}
use Rattle.sl_admit.proofs.admitting.admissions.Goals as goal

pub admitted_indexes-requires-after_bounds : goal.admitted_indexes-requires-after_bounds
admitted_indexes-requires-after_bounds g c κs within =
    ap length (c.deref.ensures.value ∙ c.in_ok-published.ensures)
    ∙ length-map-range_with_len (effective_limit c.args.instance.now (slice_index c.args.limits.now)) 0 (length c.args.instance.now.pools)

pub returns : goal.returns
returns g c =
    c.in_ok-admitted.ensures
    ∙ first_reaching c.args.instance.now c.pools-pools.ensures.well_formed (slice_index c.args.limits.now) c.deref.result.now (c.deref.ensures.value ∙ c.in_ok-published.ensures)
