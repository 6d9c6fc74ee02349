use Rattle.std.proofs.Common.{◌≡◌, ◌∙◌, ℕ, List, length, slice_index, sym, arith, subst, rules, ⊎_elim}
use Rattle.std.proofs.lemmas.Bool.{cases_eq}
use Rattle.std.proofs.lemmas.Grind.{get_or_default_zero}
use Rattle.sl_check.specs.Verdict.{IsLowestWithout}
use Rattle.sl_check.proofs.Whole.{counts_size}
use Rattle.sl_check.proofs.lowest.wrong_count.Goals as goal

pub index-requires : goal.index-requires
index-requires c =
    let size = counts_size c.args.instance.now c.args.admitted.now c.in_ok-made.made.items c.in_ok-made.ensures.counts in
    omega (arith, size, c.loop-number-test.true, c.pools-number-end.ensures.count)

pub returns-then-counts-number : goal.returns-then-counts-number
returns-then-counts-number c = λ t is.
    let size = counts_size c.args.instance.now c.args.admitted.now c.in_ok-made.made.items c.in_ok-made.ensures.counts in
    let value = get_or_default_zero c.in_ok-made.made.items c.loop-number.number c.index.result.now (omega (arith, size, c.loop-number-test.true, c.pools-number-end.ensures.count)) in
    subst (λ (made : List ℕ). IsLowestWithout (length c.args.instance.now.pools) (λ P. slice_index c.args.counts.now P ≡ slice_index made P) c.loop-number.number) (c.in_ok-made.ensures.of_limits t is)
    (record { within = search rules; below = c.loop-number.invariant; fails = λ same. c.if-counts-number.true (same ∙ sym (c.index.ensures ∙ value)) })

pub loop-number-preserved : goal.loop-number-preserved
loop-number-preserved c = λ P h.
    let size = counts_size c.args.instance.now c.args.admitted.now c.in_ok-made.made.items c.in_ok-made.ensures.counts in
    let value = get_or_default_zero c.in_ok-made.made.items c.loop-number.number c.index.result.now (omega (arith, size, c.loop-number-test.true, c.pools-number-end.ensures.count)) in
    ⊎_elim
    (λ last. subst (λ (Q : ℕ). slice_index c.args.counts.now Q ≡ slice_index c.in_ok-made.made.items Q) (sym last) (c.if-counts-number.false ∙ (c.index.ensures ∙ value)))
    (λ before. c.loop-number.invariant P (omega (arith, h, before)))
    (cases_eq P c.loop-number.number)
