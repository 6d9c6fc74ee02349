use Rattle.std.proofs.Common.{nat_lt, ap, ◌∙◌}
use Rattle.sl_core.specs.Machine.{has_any}
use Rattle.sl_floor.specs.Sets.{flags_in}
use Rattle.sl_floor.proofs.Sets.{any_counted}
use Rattle.sl_floor.proofs.pool_set.PoolSet.has_any.Goals as goal

pub returns : goal.returns
returns c = ap (nat_lt 0) c.self.invariant.3 ∙ (any_counted (flags_in c.self.inside.pools c.self.inside.words.items) ∙ ap has_any c.self.view_is)
