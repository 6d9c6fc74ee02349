use Rattle.std.proofs.Common.{◌≡◌, ◌∙◌, length, arith, slice_index}
use Rattle.std.proofs.lemmas.List.{with_items_is}
use Rattle.std.proofs.lemmas.List.FromFn.{fill_by_all}
use Rattle.sl_laws.specs.Limits.{effective_limit}
use Rattle.sl_admit.proofs.admitting.published_limits.Goals as goal

pub returns : goal.returns
returns c =
    let market = c.args.instance.now in
    let out = c.published.new.out in
    let len = c.deref_mut.ensures.len in
    let size : length out ≡ c.in_ok-out.out.len = c.published.ensures.size ∙ len in
    let each : length out ≡ length market.pools = let zeros = c.in_ok-out.ensures.len in omega (arith, size, zeros, c.pools.ensures.count) in
    with_items_is c.in_ok-out.out out size
    ∙ fill_by_all (effective_limit market (slice_index c.args.limits.now)) out (length market.pools) 0 each (λ k lt. c.published.ensures.limits k (omega (arith, lt, each)))
