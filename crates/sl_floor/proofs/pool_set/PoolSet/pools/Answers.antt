use Rattle.std.proofs.Common.{length, sym, ap, ◌∙◌}
use Rattle.sl_floor.proofs.Sets.{flags_count}
use Rattle.sl_floor.proofs.pool_set.PoolSet.pools.Goals as goal

pub returns : goal.returns
returns c = sym (flags_count c.self.inside.pools c.self.inside.words.items) ∙ ap length c.self.view_is
