use Rattle.std.proofs.Common.{◌≡◌, ◌∙◌, ◌<◌, length, take, get_or, List, ap, sym, arith, [], ℕ}
use Rattle.std.proofs.lemmas.Option.{get_or_from_slice_get}
use Rattle.sl_codes.specs.Codes.{with_code}
use Rattle.sl_amend.specs.DraftMarket.{marked}
use Rattle.sl_amend.proofs.Marked.{code_hit, marked_miss, with_code_longer}
use Rattle.sl_amend.proofs.present.present_codes.Goals as goal
use Rattle.sl_amend.proofs.present.present_codes.Goals.{then-present-number+in_ok-add, else-present-number}

pub loop-number-preserved : goal.loop-number-preserved
loop-number-preserved c =
    let codes = c.args.codes.now in
    let marks = c.args.present.now in
    let k = c.loop-number.number in
    let lt : k < length codes = omega (arith, c.len-number-end.ensures.count, c.loop-number-test.true) in
    let inv = c.loop-number.invariant in
    elim c.if-present-number.branch [
      | then-present-number+in_ok-add w ↦
          let text : get_or codes k [] ≡ w.text.result.now = get_or_from_slice_get codes k w.text.result.now [] w.text.ensures in
          let wrote = w.copy-is ∙ w.in_ok-add.ensures.codes in
          let longer = with_code_longer c.loop-number.copy w.text.result.now in
          let count : length c.if-present-number.copy ≡ length (with_code c.loop-number.copy w.text.result.now) = ap (λ (es : List (List ℕ)). length es) wrote in (
            wrote ∙ ap (λ (before : List (List ℕ)). with_code before w.text.result.now) inv.0
                ∙ ap (λ (code : List ℕ). with_code (marked (take k marks) (take k codes)) code) (sym text)
                ∙ code_hit marks codes k c.requires lt c.len-number-end.ensures.once w.if-present-number.true,
            omega (arith, count, longer, inv.1),
          )
      | else-present-number w ↦
          let count : length c.if-present-number.copy ≡ length c.loop-number.copy = ap (λ (es : List (List ℕ)). length es) w.copy-is in (
            w.copy-is ∙ inv.0 ∙ sym (marked_miss marks codes k [] c.requires lt w.if-present-number.false),
            omega (arith, count, inv.1),
          )
    ]
