-- What a demo writes is one text.
use Rattle.std.proofs.Common.{◌≡◌, ◌<◌, ◌∙◌, ℕ, zero, suc, List, [], ◌∷◌, length, slice_index, refl, sym, ap, subst, arith}
use Rattle.sl_types.specs.Market.{Market}
use Rattle.sl_laws.proofs.Ends.{least_is_one}
use Rattle.sl_doc.specs.Document.{Document}
use Rattle.sl_run.specs.Result.{IsResultOf}
use Rattle.sl_run.specs.Run.{DemosAreOne}
use Rattle.sl_run.specs.Summary.{summary_text}

-- lists of one length with the same number at each place
same_list : (xs ys : List ℕ) → length xs ≡ length ys → ((P : ℕ) → P < length xs → slice_index xs P ≡ slice_index ys P) → xs ≡ ys
same_list [] [] long same = refl
same_list [] (y ∷ ys) long same = absurd (omega (arith, long))
same_list (x ∷ xs) [] long same = absurd (omega (arith, long))
same_list (x ∷ xs) (y ∷ ys) long same =
    let first : x ≡ y = same zero (omega arith) in
    let rest = same_list xs ys (omega (arith, long)) (λ P lt. same (suc P) (omega (arith, lt))) in
    rw (first, rest) refl

-- two results of an instance have the same limits
pub same_limits_of : (market : Market) (doc doc' : Document) → IsResultOf market doc → IsResultOf market doc' → doc.limits ≡ doc'.limits
same_limits_of market doc doc' r r' =
    same_list doc.limits doc'.limits (r.each ∙ sym r'.each)
    (λ P lt. least_is_one market (slice_index doc.limits) (slice_index doc'.limits) r.least r'.least P (subst (λ (n : ℕ). P < n) r.each lt))

pub demos_are_one : DemosAreOne
demos_are_one shelf shelf' applicants workers workers' n n' verdict verdict' receipt receipt' text text' (doc, is, has, e) (doc', is', has', e') =
    let market : n.market ≡ n'.market = is.market ∙ sym is'.market in
    let limits = same_limits_of n.market doc doc' is.result (subst (λ (m : Market). IsResultOf m doc') (sym market) is'.result) in
    let text_is : summary_text n.market doc.limits ≡ summary_text n'.market doc'.limits =
    ap (summary_text n.market) limits ∙ ap (λ (m : Market). summary_text m doc'.limits) market in
    e ∙ text_is ∙ sym e'
