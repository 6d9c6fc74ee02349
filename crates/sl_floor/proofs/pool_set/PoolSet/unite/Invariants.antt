use Rattle.std.proofs.Common.{ℕ, Bool, false, ◌||◌, get_or}
use Rattle.sl_floor.proofs.Changes.{Changed}
use Rattle.sl_floor.proofs.pool_set.PoolSet.unite.Given as goal

abbrev pub invariant-loop-at : goal.invariant-loop-at
invariant-loop-at l = Changed l.self l.fn.self l.at (λ (k : ℕ) (y : Bool). get_or l.other k false || y) false
