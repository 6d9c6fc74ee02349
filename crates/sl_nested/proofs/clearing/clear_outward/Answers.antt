use Rattle.std.proofs.Common.{◌≡◌, ◌<◌, ◌||◌, ℕ, Bool, false, length, nat_eq, true≢false, refl, sym, ap, subst, ◌∙◌, arith, inl, inr, get_or, List, All, rules}
use Rattle.std.specs.List.{list_any}
use Rattle.std.proofs.lemmas.Bool.{cases_Bool}
use Rattle.std.proofs.lemmas.List.Elements.{All-head, All-tail}
use Rattle.sl_nested.proofs.Writes.{set_zero, set_else, keeps_zero}
use Rattle.sl_nested.proofs.clearing.clear_outward.Goals as goal

pub loop-here-init : goal.loop-here-init
loop-here-init c =
    let gives = c.into_iter-here-iterator.ensures.into_iter_gives in
    let pools = gives ∙ c.outward-here-items.ensures.pools in
    record {
      size = refl;
      within = subst (All (λ (Q : ℕ). Q < length c.args.instance.now.pools)) (sym gives) c.outward-here-items.ensures.within;
      cleared = λ C out inside. absurd (true≢false (sym inside ∙ (sym (ap (list_any (λ Q. nat_eq Q C)) pools) ∙ out)));
      zeros = λ C zero. zero;
    }

pub loop-here-preserved : goal.loop-here-preserved
loop-here-preserved c =
    let kept = c.loop-here.invariant in
    let market = c.args.instance.now in
    let R : ℕ = c.in-Some.here.0 in
    let rest = c.next.new.self in
    let steps = c.in-Some.ensures.steps in
    let ks = c.loop-here.scratch in
    let IsPool : ℕ → Type 0 = λ Q. Q < length market.pools in
    let within = subst (All IsPool) steps kept.within in
    let R_in : R < length ks = let r = All-head IsPool R rest within in let s = kept.size in let e = c.requires.size in omega (arith, r, s, e) in
    record {
      size = search rules;
      within = All-tail IsPool R rest within;
      cleared = λ C out inside. ap (λ (xs : List ℕ). get_or xs C 0) c.set_count.ensures ∙ elim (cases_Bool (nat_eq R C)) [
        | inl hit ↦ set_zero ks R C R_in hit
        | inr miss ↦
            let none : list_any (λ Q. nat_eq Q C) c.loop-here.here-iterator ≡ false = ap (list_any (λ Q. nat_eq Q C)) steps ∙ (ap (λ (b : Bool). b || list_any (λ Q. nat_eq Q C) rest) miss ∙ out) in
            set_else ks R C 0 miss ∙ kept.cleared C none inside
      ];
      zeros = λ C zero. ap (λ (xs : List ℕ). get_or xs C 0) c.set_count.ensures ∙ keeps_zero ks R C R_in (kept.zeros C zero);
    }
