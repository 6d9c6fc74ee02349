use Rattle.std.proofs.Common.{◌≡◌, ◌+◌, ◌<◌, ◌++◌, ◌∷◌, ◌∙◌, [], ℕ, List, length, ap, sym, subst, arith, length-append}
use Rattle.sl_contend.specs.Pieces.{joined}
use Rattle.sl_contend.proofs.RowByRow.{AreFirst, next, row_held}
use Rattle.sl_contend.proofs.joining.join_rows.Goals as goal

pub loop-number-preserved : goal.loop-number-preserved
loop-number-preserved g c =
    let f = joined c.args.pieces.now in
    let k : ℕ = c.loop-number.number in
    let items = c.loop-number.rows.items.items in
    let starts = c.loop-number.rows.starts.items in
    let more = c.in_ok-add_row.ensures.items in
    let end = ap length more ∙ length-append items (f k) in
    let added = c.in_ok-add_row.ensures.starts ∙ ap (λ (n : ℕ). starts ++ n ∷ []) end in
    subst (λ (s : List ℕ). AreFirst f (k + 1) c.add_row.new.rows.items.items s) (sym added)
    (subst (λ (xs : List g.row.T.Denot). AreFirst f (k + 1) xs (starts ++ (length items + length (f k)) ∷ [])) (sym more) (next f k items starts c.loop-number.invariant))

pub returns-clause-rows : goal.returns-clause-rows
returns-clause-rows g c = λ j lt.
    row_held (joined c.args.pieces.now) c.loop-number.number c.loop-number.rows.items.items c.loop-number.rows.starts.items c.loop-number.invariant j (omega (arith, lt, c.loop-number.auto.number-end, c.loop-number-test.false))
