use Rattle.std.proofs.Common.{◌+◌, ◌<◌, ◌∙◌, ℕ, List, length, length-set, nat_eq, sym, ap, subst, slice_index, All, rules}
use Rattle.std.specs.List.{list_any, IsDistinct}
use Rattle.std.proofs.lemmas.List.Elements.{All-tail}
use Rattle.std.proofs.lemmas.Map.Keys.{IsDistinct-tail}
use Rattle.sl_admit.specs.Counting.{one_if}
use Rattle.sl_admit.proofs.Round.{one_counted}
use Rattle.sl_admit.proofs.counting.count_round.Goals as goal

pub loop-here-preserved : goal.loop-here-preserved
loop-here-preserved c =
    let kept = c.loop-here.invariant in
    let counts = c.loop-here.counts in
    let here = c.in-Some.here.0 in
    let rest = c.next.new.self in
    let steps = c.in-Some.ensures.steps in
    let IsPool : ℕ → Type 0 = λ P. P < length c.args.instance.now.pools in
    let within = subst (All IsPool) steps kept.within in
    let once = subst (IsDistinct nat_eq) steps kept.once in
    let inside : here < length counts = search rules in
    record {
      each = length-set counts here (slice_index counts here + 1) ∙ kept.each;
      within = All-tail IsPool here rest within;
      once = IsDistinct-tail nat_eq here rest once;
      counted = λ P h.
          one_counted counts here rest P inside once
          ∙ ap (λ (Ps : List ℕ). slice_index counts P + one_if (list_any (λ Q. nat_eq Q P) Ps)) (sym steps)
          ∙ kept.counted P h;
    }
