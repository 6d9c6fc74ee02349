use Rattle.std.proofs.Common.{◌∙◌, map, vec_len, List, ap, arith}
use Rattle.std.proofs.lemmas.Result.{IfOk-weaker}
use Rattle.sl_contend.specs.declared.rows.Placed.{Placed}
use Rattle.sl_contend.specs.Rows.{row_of, placed_in}
use Rattle.sl_contend.proofs.Offered.{same_rows}
use Rattle.sl_contend.proofs.entering.finish.Goals as goal

pub returns-clause-rows : goal.returns-clause-rows
returns-clause-rows g c =
    let number = g.T.Numbered.number in
    let rows = c.args.rows.now in
    IfOk-weaker c.bucket.result _ _ (λ r h. same_rows (λ k. map number (row_of r.items.items r.starts.items k)) (λ Q. map number (placed_in Q rows.placed.items)) 0 (vec_len rows.last)
    (λ P low high. ap (map number) (h P (let n = c.len.ensures in omega (arith, high, n)) ∙ ap (λ (ps : List (Placed g.row.T.Denot)). placed_in P ps) c.deref.ensures.value))) c.bucket.ensures.rows
