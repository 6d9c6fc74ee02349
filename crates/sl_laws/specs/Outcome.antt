-- Who is admitted where, and how many each pool admits, as lists.
use Rattle.std.specs.Prelude.{ℕ, List, map}
use Rattle.std.specs.List.{position_or_len}
use Rattle.sl_types.specs.Market.{Market, list_of, pool_numbers}
use Rattle.sl_laws.specs.Limits.{Limits, is_eligible, count_in}

-- the index in an applicant's list of the choice that limits admit them with, or the list's length where there is none
abbrev pub admitted_place : Market → Limits → ℕ → ℕ
admitted_place market t a = position_or_len (is_eligible market t) (list_of market a)

-- the same of each applicant
abbrev pub admitted_indexes : Market → Limits → List ℕ
admitted_indexes market t = map (λ choices. position_or_len (is_eligible market t) choices) market.lists

-- how many each pool admits
abbrev pub counts_in : Market → Limits → List ℕ
counts_in market t = map (count_in market t) (pool_numbers market)
