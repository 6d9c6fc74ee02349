use Rattle.std.proofs.Common.{◌≡◌, take}
use Rattle.sl_amend.proofs.opening.copy_pools.Given as goal

abbrev pub invariant-loop-number : goal.invariant-loop-number
invariant-loop-number l = l.pools.items ≡ take l.number l.instance.pools
