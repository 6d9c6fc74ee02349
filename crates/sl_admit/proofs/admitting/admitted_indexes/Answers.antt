use Rattle.std.proofs.Common.{◌≡◌, ◌<◌, ◌-◌, ◌^◌, ◌∙◌, ℕ, List, length, map, ap, arith, slice_index}
use Rattle.std.specs.List.{range_with_len, position_or_len}
use Rattle.std.proofs.lemmas.Slice.Zip.{AllZip-map}
use Rattle.rayon.specs.Numbers.{nat_range}
use Rattle.rayon.proofs.ListFacts.{IfOk-then}
use Rattle.rayon.proofs.ToStd.{nat_range-All}
use Rattle.sl_types.specs.declared.kinds.Entry.{Entry}
use Rattle.sl_types.specs.Market.{list_of}
use Rattle.sl_admit.specs.Admitting.{reaches}
use Rattle.sl_admit.proofs.Applicants.{by_applicant}
use Rattle.sl_admit.proofs.admitting.admitted_indexes.Goals as goal

pub collect-requires-clause-ready : goal.collect-requires-clause-ready
collect-requires-clause-ready g c κs within =
    let ends = c.into_par_iter.ensures in
    let count = c.applicants.ensures.count in
    let few = c.applicants.ensures.few in
    let inside = nat_range-All (λ i. (i < length c.args.instance.now.lists) × (i < 2 ^ 32) × (length c.args.published.now ≡ length c.args.instance.now.pools)) 0 (length c.args.instance.now.lists)
    (λ i low high. (high, omega (arith, count, few, high), c.requires)) in
    rw (c.map.ensures.base, c.map.ensures.f, ends.0, ends.1, c.applicants.ensures.count) (λ k d lt. (inside k d lt, λ y p. tt))

pub returns : goal.returns
returns g c =
    let ends = c.into_par_iter.ensures in
    let market = c.args.instance.now in
    let n = length market.lists in
    let whole : n - 0 ≡ n = omega arith in
    let first = λ (choices : List Entry). position_or_len (reaches market (slice_index c.args.published.now)) choices in
    let index = λ (a : ℕ). first (list_of market a) in
    IfOk-then c.collect.result _ _ c.collect.ensures (λ v h.
    let chain = rw (c.map.ensures.base, c.map.ensures.f) at h.1 in
    let places = chain.1 ∙ (λ i. nat_range (ends.0 i) ((ends.1 ∙ c.applicants.ensures.count) i)) ∙ ap (range_with_len 0) whole in
    h.2 ∙ AllZip-map index chain.0 h.0 chain.2 ∙ ap (map index) places ∙ by_applicant market first n (λ i. n))
