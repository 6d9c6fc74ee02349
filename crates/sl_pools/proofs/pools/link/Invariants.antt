use Rattle.std.proofs.Common.{◌≡◌, ◌<◌, ◌++◌, ℕ, false, [], take, drop, get_or}
use Rattle.csv.specs.Records.{fields_of}
use Rattle.sl_pools.specs.Pools.{linked, is_unknown_parent}
use Rattle.sl_pools.proofs.pools.link.Given as goal

-- the pools so far have their parents, which are known
abbrev pub invariant-pools : goal.invariant-pools
invariant-pools l =
    (linked l.codes (fields_of l.parents) l.initial.pools ≡ take l.pool l.pools ++ linked l.codes (drop l.pool (fields_of l.parents)) (drop l.pool l.pools))
    × ((k : ℕ) → k < l.pool → is_unknown_parent l.codes (get_or (fields_of l.parents) k []) ≡ false)
