use Rattle.std.proofs.Common.{rules}
use Rattle.sl_core.proofs.Opening.{fields_fit, fields_start}
use Rattle.sl_core.proofs.machine.Machine.new.Goals as goal

pub invariant_of-result : goal.invariant_of-result
invariant_of-result c = fields_fit c.args.instance.now c.pools-pools.result c.args.actors c.in_ok-vec.field-0.items c.in_ok-vec-2.field-0.items c.in_ok-idle_workers.field-0.items
    c.pools-pools.ensures.count c.requires.0 (search rules) (search rules) c.in_ok-idle_workers.ensures

pub returns-clause-start : goal.returns-clause-start
returns-clause-start c = fields_start c.args.instance.now c.pools-pools.result c.args.actors c.in_ok-vec.field-0.items c.in_ok-vec-2.field-0.items c.in_ok-idle_workers.field-0.items
    c.pools-pools.ensures.count c.requires.0 (search rules) (search rules) c.in_ok-idle_workers.ensures

pub returns-clause-parts : goal.returns-clause-parts
returns-clause-parts c = fields_fit c.args.instance.now c.pools-pools.result c.args.actors c.in_ok-vec.field-0.items c.in_ok-vec-2.field-0.items c.in_ok-idle_workers.field-0.items
    c.pools-pools.ensures.count c.requires.0 (search rules) (search rules) c.in_ok-idle_workers.ensures
