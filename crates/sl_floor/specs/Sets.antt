-- Sets of pools, kept as bits, 64 to a word.
use Rattle.std.specs.Prelude.{◌≡◌, ℕ, ◌/◌, ◌%◌, ◌<◌, ◌≤◌, Bool, true, false, List, length, map, get_or, sum_by, slice_index, nat_eq}
use Rattle.std.specs.Int.{bit_at}
use Rattle.std.specs.List.{range_with_len}
use Rattle.sl_core.specs.Parts.{once_if}

-- whether a bit of a word is 1
abbrev pub has_bit : ℕ → ℕ → Bool
has_bit word bit = nat_eq (bit_at word bit) 1

-- which word and which bit of it say whether a pool is in a set
abbrev pub has_pool_bit : List ℕ → ℕ → Bool
has_pool_bit words Q = has_bit (slice_index words (Q / 64)) (Q % 64)

-- a set of so many pools as a flag for each
abbrev pub flags_in : ℕ → List ℕ → List Bool
flags_in pools words = map (has_pool_bit words) (range_with_len 0 pools)

-- how many flags are up
abbrev pub count_up : List Bool → ℕ
count_up flags = sum_by once_if flags

-- every flag from a place on is down
abbrev pub AreDownFrom : List Bool → ℕ → Type 0
AreDownFrom flags from = (Q : ℕ) → from ≤ Q → get_or flags Q false ≡ false

-- Q is the first place from another on whose flag is up
pub record IsNextUp (flags : List Bool) (from Q : ℕ) : Type 0 where
  pub past : from ≤ Q
  pub within : Q < length flags
  pub up : get_or flags Q false ≡ true
  pub first : (R : ℕ) → from ≤ R → R < Q → get_or flags R false ≡ false

-- a place is the first from another on whose bit is 1
pub record IsFirstBit (words : List ℕ) (from Q : ℕ) : Type 0 where
  pub past : from ≤ Q
  pub one : has_pool_bit words Q ≡ true
  pub first : (R : ℕ) → from ≤ R → R < Q → has_pool_bit words R ≡ false
