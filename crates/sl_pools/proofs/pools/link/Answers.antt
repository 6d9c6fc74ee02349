use Rattle.std.proofs.Common.{[], arith, below_more}
use Rattle.csv.specs.Records.{fields_of}
use Rattle.sl_pools.specs.Pools.{is_unknown_parent}
use Rattle.sl_pools.proofs.Links.{linked_step, linked_all}
use Rattle.sl_pools.proofs.pools.link.Goals as goal
use Rattle.sl_types.proofs.Lists.{first_found, first_none}

pub returns-in-None-clause-unknown : goal.returns-in-None-clause-unknown
returns-in-None-clause-unknown c =
    first_found (is_unknown_parent c.args.codes.now) (fields_of c.args.parents.now) c.pools.pool [] (omega (arith, c.pools-test.true, c.requires)) c.pools.invariant.1 (rw c.field.ensures at c.in-None.ensures)

pub pools-preserved : goal.pools-preserved
pools-preserved c =
    let named = rw c.field.ensures at c.in-Some.ensures in (
      linked_step c.args.codes.now (fields_of c.args.parents.now) c.args.pools.now c.pools.pools c.pools.pool c.in-Some.parent (omega (arith, c.pools-test.true, c.requires)) (omega (arith, c.pools-test.true)) c.pools.invariant.0 named.1,
      below_more _ _ c.pools.invariant.1 named.0,
    )

pub returns-clause-linked : goal.returns-clause-linked
returns-clause-linked c =
    linked_all c.args.codes.now (fields_of c.args.parents.now) c.args.pools.now c.pools.pools c.pools.pool (omega (arith, c.pools-test.false, c.requires)) (omega (arith, c.pools-test.false)) c.pools.invariant.0

pub returns-clause-known : goal.returns-clause-known
returns-clause-known c =
    first_none (is_unknown_parent c.args.codes.now) (fields_of c.args.parents.now) [] (λ k below. c.pools.invariant.1 k (omega (arith, below, c.pools-test.false, c.requires)))
