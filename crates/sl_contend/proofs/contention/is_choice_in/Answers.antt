use Rattle.std.proofs.Common.{◌∙◌, ap, rules, tests, nat_eq}
use Rattle.std.proofs.lemmas.Iterator.Search.{any_from_yields_List}
use Rattle.std.proofs.lemmas.Iterator.Consumers.{YieldsList-from_first}
use Rattle.sl_types.specs.declared.kinds.PoolId.{PoolId}
use Rattle.sl_types.specs.Market.{lies_in}
use Rattle.sl_contend.proofs.contention.is_choice_in.Goals as goal

pub returns : goal.returns
returns c =
    any_from_yields_List (λ Q. nat_eq Q c.args.pool.0) _ _ _ c.any.ensures.ran (YieldsList-from_first (λ (Q : PoolId). Q.0) (λ s. s) _ c.outward.ensures.pools)
    (λ x b q k. search (rules, tests))
    ∙ ap (λ (P : PoolId). lies_in c.args.instance.now P.0 c.args.pool.0) c.pool_of.ensures.value
