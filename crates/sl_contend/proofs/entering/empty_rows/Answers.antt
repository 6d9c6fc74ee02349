use Rattle.std.proofs.Common.{ℕ, ◌∙◌, ap, List}
use Rattle.sl_contend.specs.declared.rows.Placed.{Placed}
use Rattle.sl_contend.proofs.Entered.{filled, filled_none}
use Rattle.sl_contend.proofs.entering.empty_rows.Goals as goal

pub returns-clause-rows : goal.returns-clause-rows
returns-clause-rows g c =
    ap (λ (n : ℕ). filled g.T.Numbered.number n c.new.result.items) c.in_ok-last.ensures.len
    ∙ (ap (λ (ps : List (Placed g.row.T.Denot)). filled g.T.Numbered.number c.args.count ps) c.new.ensures.items ∙ filled_none g.T.Numbered.number c.args.count)
