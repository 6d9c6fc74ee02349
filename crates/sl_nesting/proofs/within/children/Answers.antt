use Rattle.std.proofs.Common.{◌<◌, ℕ, List, length, subst, sym, All}
use Rattle.sl_nesting.proofs.Next.{children_within}
use Rattle.sl_nesting.proofs.within.children.Goals as goal

pub returns-clause-within : goal.returns-clause-within
returns-clause-within c =
    subst (λ (Cs : List ℕ). All (λ C. C < length c.args.instance.now.pools) Cs) (sym c.all.ensures) (children_within c.args.instance.now c.args.pool.0)
