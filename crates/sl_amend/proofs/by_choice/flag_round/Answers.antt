use Rattle.std.proofs.Common.{ℕ, ◌<◌, ◌||◌, ◌∙◌, List, [], length, sym, ap, subst, arith, All, set, true, false}
use Rattle.std.proofs.lemmas.List.Elements.{All-head, All-tail}
use Rattle.sl_amend.specs.Flags.{is_flagged}
use Rattle.sl_amend.proofs.Flagged.{is_flagged_or_among, way_more, or_none}
use Rattle.sl_amend.proofs.by_choice.flag_round.Goals as goal

pub loop-here-preserved : goal.loop-here-preserved
loop-here-preserved c =
    let here = c.in-Some.here.0 in
    let rest = c.next.new.self in
    let steps = c.in-Some.ensures.steps in
    let IsPool : ℕ → Type 0 = λ P. P < length c.args.instance.now.pools in
    let all = subst (All IsPool) steps c.loop-here.invariant.within in
    let low : here < length c.args.instance.now.pools = All-head IsPool here rest all in
    record {
      within = All-tail IsPool here rest all;
      flagged = λ P. way_more c.loop-here.flags here rest P (omega (arith, low)) ∙ (ap (λ (Qs : List ℕ). is_flagged_or_among c.loop-here.flags Qs P) (sym steps) ∙ c.loop-here.invariant.flagged P);
    }

pub returns-clause-flagged : goal.returns-clause-flagged
returns-clause-flagged c = λ P P_in.
    sym (or_none (is_flagged c.loop-here.flags P) false Rattle.std.proofs.Common.refl)
    ∙ (ap (λ (Qs : List ℕ). is_flagged_or_among c.loop-here.flags Qs P) (sym c.in-None.ensures.steps.0) ∙ c.loop-here.invariant.flagged P)
