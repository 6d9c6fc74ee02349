use Rattle.std.proofs.Common.{rules, tests, nat_eq}
use Rattle.std.proofs.lemmas.Iterator.Search.{any_from_yields_List}
use Rattle.std.proofs.lemmas.Iterator.Consumers.{YieldsList-from_first}
use Rattle.sl_types.specs.declared.kinds.PoolId.{PoolId}
use Rattle.sl_laws.proofs.replaced.lies_inside.Goals as goal

pub returns : goal.returns
returns c =
    any_from_yields_List (λ Q. nat_eq Q c.args.outer.0) _ _ _ c.any.ensures.ran (YieldsList-from_first (λ (Q : PoolId). Q.0) (λ s. s) _ c.outward.ensures.pools)
    (λ x b q k. search (rules, tests))
