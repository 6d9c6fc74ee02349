use Rattle.std.proofs.Common.{◌≡◌, ◌<◌, ◌∙◌, ℕ, List, length, max, ap, sym, subst, arith, slice_index, All, rules}
use Rattle.std.proofs.lemmas.List.Elements.{All-tail}
use Rattle.sl_laws.specs.Limits.{with_limit, greatest_of, effective_limit}
use Rattle.sl_laws.proofs.replaced.effective_at.Goals as goal

pub loop-here-preserved : goal.loop-here-preserved
loop-here-preserved c =
    let kept = c.loop-here.invariant in
    let steps = c.in-Some.ensures.steps in
    let market = c.args.instance.now in
    let t = with_limit (slice_index c.args.limits.now) c.args.pool.0 c.args.limit in
    let here = c.in-Some.here.0 in
    let rest = c.next.new.self in
    let best : max c.loop-here.greatest (max (t here) (greatest_of t rest)) ≡ effective_limit market t c.args.at.0 =
    ap (λ (Ps : List ℕ). max c.loop-here.greatest (greatest_of t Ps)) (sym steps) ∙ kept.best in
    let number = c.limit_at-number.ensures in
    let greater : c.max-greatest.result ≡ max c.loop-here.greatest c.limit_at-number.result = search rules in
    record {
      within = All-tail (λ P. P < length market.pools) here rest (subst (All (λ P. P < length market.pools)) steps kept.within);
      best = omega (arith, best, number, greater);
    }
