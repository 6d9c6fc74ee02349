use Rattle.std.proofs.Common.{◌∙◌, List, length, ℕ, sym, ap}
use Rattle.sl_amend.proofs.Pieces.{length-pieces}
use Rattle.sl_amend.proofs.row.Fields.get.Goals as goal

pub returns-clause-five : goal.returns-clause-five
returns-clause-five c =
    ap (λ (fields : List (List ℕ)). length fields) (sym c.self.view_is)
    ∙ length-pieces c.self.inside.bytes.items 0 c.self.inside.ends ∙ c.self.invariant.0
