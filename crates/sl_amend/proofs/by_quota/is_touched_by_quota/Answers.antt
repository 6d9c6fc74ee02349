use Rattle.std.proofs.Common.{◌∙◌, sym, ap}
use Rattle.sl_types.specs.declared.kinds.Pool.{Pool}
use Rattle.sl_types.specs.declared.kinds.Rule.{Rule}
use Rattle.sl_amend.specs.Amended.{is_touched_by_quota}
use Rattle.sl_amend.specs.Touched.{is_other_tree}
use Rattle.sl_amend.proofs.SameTree.{other_tree_is}
use Rattle.sl_amend.proofs.by_quota.is_touched_by_quota.Goals as goal

pub returns-in-Merit : goal.returns-in-Merit
returns-in-Merit c =
    let old = c.args.old.now in
    let new = c.args.new.now in
    let merit = sym (sym (ap (λ (p : Pool). p.rule) c.pool.ensures.value) ∙ c.in-Merit.is) in
    c.requires.marked c.outermost.result.0 c.outermost.ensures.within
    ∙ (ap (is_other_tree old new) c.outermost.ensures.value
    ∙ (other_tree_is old new c.pools-pools.ensures.well_formed c.args.pool.0 ∙ ap (λ (r : Rule). is_touched_by_quota r old new c.args.pool.0) merit))
