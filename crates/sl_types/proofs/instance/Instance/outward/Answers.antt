use Rattle.sl_types.proofs.Chains.{chain_within, chain_once}
use Rattle.sl_types.proofs.instance.Instance.outward.Goals as goal

pub returns-clause-within : goal.returns-clause-within
returns-clause-within c = chain_within c.args.self.now c.pools-pools.ensures.well_formed c.args.pool.0 c.requires

pub returns-clause-once : goal.returns-clause-once
returns-clause-once c = chain_once c.args.self.now c.pools-pools.ensures.well_formed c.args.pool.0
