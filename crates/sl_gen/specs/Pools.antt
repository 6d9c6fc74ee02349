-- The pools of a generated round and their programmes. Pools stand in groups of eight, one after another.
use Rattle.std.specs.Prelude.{ℕ, ◌+◌, ◌*◌, ◌/◌, ◌%◌, nat_lt, if◌then◌else◌, Option, Some, None}
use Rattle.sl_types.specs.declared.kinds.Pool.{Pool}
use Rattle.sl_types.specs.declared.kinds.PoolId.{PoolId}
use Rattle.sl_types.specs.declared.kinds.Rule.{Rule}
use Rattle.sl_types.specs.declared.kinds.Rule.TheVariants.{H, L, Merit}

-- how many pools n applicants have: a group of eight, and one more for each 400 applicants
abbrev pub pool_count : ℕ → ℕ
pool_count n = 8 * (1 + n / 400)

-- where pool k stands in its group, from 0
abbrev pub place_of_pool : ℕ → ℕ
place_of_pool k = k % 8

-- the pool that stands at a place of the group of pool k
abbrev pub fellow_of : ℕ → ℕ → PoolId
fellow_of k place = record { 0 = k / 8 * 8 + place }

-- the first two of a group have rule H, the next two rule L, and the other four rule Merit
abbrev pub rule_of_pool : ℕ → Rule
rule_of_pool k =
    if nat_lt (place_of_pool k) 2 then H else (if nat_lt (place_of_pool k) 4 then L else Merit)

-- the pools at places 5 and 6 lie in the one at place 4, the pool at place 7 lies in the one at place 5, and the
-- others in none
abbrev pub parent_of_pool : ℕ → Option PoolId
parent_of_pool k =
    if nat_lt (place_of_pool k) 5 then None
    else (if nat_lt (place_of_pool k) 7 then Some (fellow_of k 4) else Some (fellow_of k 5))

-- pool k, with a quota of 1 to 60
abbrev pub pool_numbered : ℕ → Pool
pool_numbered k =
    record { quota = 1 + (k * 29) % 60; parent = parent_of_pool k; rule = rule_of_pool k }

-- how many programmes n applicants have: two in each pool
abbrev pub prog_count : ℕ → ℕ
prog_count n = 2 * pool_count n

-- the pool of programme g
abbrev pub pool_of_prog : ℕ → PoolId
pool_of_prog g = record { 0 = g / 2 }
