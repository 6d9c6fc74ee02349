use Rattle.std.proofs.Common.{◌≡◌, List, ℕ, length, sym, subst, arith, slice_index}
use Rattle.std.proofs.lemmas.List.{with_items_is}
use Rattle.sl_nesting.specs.Published.{ArePublished}
use Rattle.sl_team.proofs.closing.published_limits.Goals as goal

pub returns-clause-published : goal.returns-clause-published
returns-clause-published c =
    let out = c.published.new.out in
    let size : length out ≡ c.in_ok-limits.limits.len = omega (arith, c.published.ensures.size, c.as_mut_slice.ensures.len, c.in_ok-limits.limits.ok.0) in
    subst (λ (l : List ℕ). ArePublished c.args.instance.now (slice_index c.args.words.now) l) (sym (with_items_is c.in_ok-limits.limits out size)) c.published.ensures.limits
