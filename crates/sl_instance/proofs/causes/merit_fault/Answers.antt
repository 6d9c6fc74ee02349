use Rattle.std.proofs.Common.{◌∙◌, ℕ, List, [], sym, ap, Option}
use Rattle.sl_types.specs.Market.{Market}
use Rattle.sl_types.proofs.Alike.{nesting_alike}
use Rattle.sl_types.proofs.Roots.{IsNested, nested}
use Rattle.sl_instance.specs.Causes.{keyed_fault, market_before}
use Rattle.sl_instance.proofs.Rows.{by_trees}
use Rattle.sl_instance.proofs.causes.merit_fault.Goals as goal

pub returns : goal.returns
returns c =
    let market : Market = market_before c.args.pools.now c.args.progs.now in
    let ok : IsNested market = nested market (sym (nesting_alike c.args.pools.now c.args.progs.now []) ∙ c.requires.nested) in
    c.in_ok-fault.ensures ∙ ap (λ (trees : List (Option ℕ)). keyed_fault trees c.args.rows.now) (c.as_slice.ensures.value ∙ c.in_ok-trees.ensures)
    ∙ by_trees c.args.pools.now c.args.progs.now ok c.args.rows.now c.requires.fine
