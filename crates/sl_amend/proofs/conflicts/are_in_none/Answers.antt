use Rattle.std.proofs.Common.{◌≡◌, ◌∙◌, ◌<◌, ◌≤◌, [], length, true, false, sym, ap, arith, rules, refl}
use Rattle.std.specs.List.{list_all}
use Rattle.std.proofs.lemmas.List.{length-map, take_all}
use Rattle.std.proofs.lemmas.List.Folds.{list_all_more, list_all_at}
use Rattle.sl_instance.specs.Lists.{contents, list_at}
use Rattle.sl_amend.specs.Merits.{is_in_none}
use Rattle.sl_amend.proofs.conflicts.are_in_none.Goals as goal

pub loop-app-preserved : goal.loop-app-preserved
loop-app-preserved c =
    let merits = c.args.merits.now in
    let lists = c.args.lists.now in
    let size = length-map lists (λ l. l.items) in
    let here : is_in_none merits (list_at lists c.loop-app.app) ≡ true = ap (is_in_none merits) (sym c.list_at.ensures) ∙ sym c.is_in_none.ensures ∙ c.if-not-is_in_none.false in
    list_all_more (is_in_none merits) (contents lists) c.loop-app.app [] (omega (arith, c.loop-app-test.true, size)) ∙ rw (c.loop-app.invariant, here) refl

pub returns-then-not-is_in_none : goal.returns-then-not-is_in_none
returns-then-not-is_in_none c =
    let merits = c.args.merits.now in
    let lists = c.args.lists.now in
    let size = length-map lists (λ l. l.items) in
    let here : is_in_none merits (list_at lists c.loop-app.app) ≡ false = ap (is_in_none merits) (sym c.list_at.ensures) ∙ sym c.is_in_none.ensures ∙ c.if-not-is_in_none.true in
    sym (list_all_at (is_in_none merits) (contents lists) c.loop-app.app [] (omega (arith, c.loop-app-test.true, size)) here)

pub returns : goal.returns
returns c =
    let merits = c.args.merits.now in
    let lists = c.args.lists.now in
    let size = length-map lists (λ l. l.items) in
    let past : length lists ≤ c.loop-app.app = search rules in
    sym c.loop-app.invariant ∙ ap (list_all (is_in_none merits)) (take_all c.loop-app.app (contents lists) (omega (arith, past, size)))
