use Rattle.std.proofs.Common.{ℕ, ◌<◌, ◌∙◌, length, sym, ap, subst, All}
use Rattle.std.proofs.lemmas.List.Elements.{All-head, All-tail}
use Rattle.sl_amend.specs.Touched.{last_from}
use Rattle.sl_amend.proofs.by_quota.outermost.Goals as goal

pub loop-here-preserved : goal.loop-here-preserved
loop-here-preserved c =
    let here = c.in-Some.here.0 in
    let rest = c.next.new.self in
    let steps = c.in-Some.ensures.steps in
    let IsPool : ℕ → Type 0 = λ P. P < length c.args.instance.now.pools in
    let all = subst (All IsPool) steps c.loop-here.invariant.within in
    record {
      within = All-tail IsPool here rest all;
      low = All-head IsPool here rest all;
      last = ap (last_from c.loop-here.outermost.0) (sym steps) ∙ c.loop-here.invariant.last;
    }

pub returns-clause-value : goal.returns-clause-value
returns-clause-value c = ap (last_from c.loop-here.outermost.0) (sym c.in-None.ensures.steps.0) ∙ c.loop-here.invariant.last
