use Rattle.std.proofs.Common.{◌∙◌, ◌<◌, length, [], take, sym, ap, arith, List, ℕ}
use Rattle.std.proofs.lemmas.Option.{get_or_from_slice_get}
use Rattle.sl_codes.specs.Codes.{with_code}
use Rattle.sl_amend.proofs.ValidLists.{codes_more}
use Rattle.sl_amend.proofs.opening.copy_codes.Goals as goal

pub loop-number-preserved : goal.loop-number-preserved
loop-number-preserved c =
    let codes = c.args.codes.now in
    let k = c.loop-number.number in
    let lt : k < length codes = omega (arith, c.len-number-end.ensures.count, c.loop-number-test.true) in
    let text = get_or_from_slice_get codes k c.text.result.now [] c.text.ensures in
    c.in_ok-add.ensures.codes
    ∙ ap (λ (before : List (List ℕ)). with_code before c.text.result.now) c.loop-number.invariant
    ∙ ap (λ (code : List ℕ). with_code (take k codes) code) (sym text)
    ∙ codes_more codes k c.len-number-end.ensures.once lt
