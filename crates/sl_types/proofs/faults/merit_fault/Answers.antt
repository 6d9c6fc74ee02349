use Rattle.std.proofs.Common.{◌∙◌, ℕ, List, [], ap, Option}
use Rattle.sl_types.specs.declared.kinds.Entry.{Entry}
use Rattle.sl_types.specs.Market.{market_with}
use Rattle.sl_types.specs.Trees.{merit_fault_by}
use Rattle.sl_types.proofs.ByTrees.{by_trees}
use Rattle.sl_types.proofs.faults.merit_fault.Goals as goal

pub returns : goal.returns
returns c =
    let lists : List (List Entry) = (market_with [] [] c.args.lists.now).lists in
    c.in_ok-fault.ensures ∙ ap (λ (trees : List (Option ℕ)). merit_fault_by trees lists) (c.as_slice.ensures.value ∙ c.in_ok-trees.ensures)
    ∙ by_trees c.args.pools.now c.args.progs.now lists c.requires.listed c.requires.nested
