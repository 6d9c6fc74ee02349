-- Published limits, and the choices that reach them.
use Rattle.std.specs.Prelude.{ℕ, Bool, List, map, nat_le, slice_index}
use Rattle.std.specs.List.{position_or_len}
use Rattle.sl_types.specs.declared.kinds.Entry.{Entry}
use Rattle.sl_types.specs.Market.{Market, pool_of, pool_numbers}
use Rattle.sl_laws.specs.Limits.{Limits, effective_limit}

-- the published limit of each pool is its effective limit
abbrev pub published_limits : Market → Limits → List ℕ
published_limits market t = map (effective_limit market t) (pool_numbers market)

-- whether the score of a choice is at least the number of its programme's pool
abbrev pub reaches : Market → Limits → Entry → Bool
reaches market published e = nat_le (published (pool_of market e)) e.score

-- the index of the first choice that reaches the number of its pool, or the length of the list
abbrev pub first_reaching : Market → List ℕ → List Entry → ℕ
first_reaching market published choices = position_or_len (reaches market (slice_index published)) choices
