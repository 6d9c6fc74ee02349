use Rattle.std.proofs.Common.{◌≡◌, ◌∙◌, length, ap, sym, arith}
use Rattle.std.proofs.lemmas.List.{with_items_is}
use Rattle.sl_team.proofs.closing.close.Goals as goal

pub returns-clause-words : goal.returns-clause-words
returns-clause-words c =
    let out = c.close-receipt.new.out in
    let size : length out ≡ c.in_ok-words.words.len = omega (arith, c.close-receipt.auto.out, c.in_ok-words.ensures.len, c.as_mut_slice.ensures.len, c.in_ok-words.words.ok.0) in
    with_items_is c.in_ok-words.words out size ∙ sym c.close-receipt.ensures.words

pub returns-clause-each : goal.returns-clause-each
returns-clause-each c =
    let out = c.close-receipt.new.out in
    let size : length out ≡ c.in_ok-words.words.len = omega (arith, c.close-receipt.auto.out, c.in_ok-words.ensures.len, c.as_mut_slice.ensures.len, c.in_ok-words.words.ok.0) in
    ap length (with_items_is c.in_ok-words.words out size) ∙ omega (arith, size, c.in_ok-words.ensures.len, c.in_ok-words.words.ok.0)
