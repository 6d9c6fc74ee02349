-- A generated round.
use Rattle.std.specs.Prelude.{◌≡◌, ◌≤◌, ◌*◌, ℕ, length, map, sum_by}
use Rattle.std.specs.List.{range_with_len}
use Rattle.sl_types.specs.declared.kinds.TheConstants.{MAX_APPLICANTS}
use Rattle.sl_types.specs.Market.{Market}
use Rattle.sl_types.specs.Valid.{IsValid}
use Rattle.sl_gen.specs.Pools.{pool_count, pool_numbered, prog_count, pool_of_prog}
use Rattle.sl_gen.specs.Choices.{choices_of}

-- the round of n applicants: its pools, its programmes and the lists of its applicants, each by its number
unfoldable pub generated : ℕ → Market
generated n = record {
  pools = map pool_numbered (range_with_len 0 (pool_count n));
  progs = map pool_of_prog (range_with_len 0 (prog_count n));
  lists = map (choices_of (prog_count n)) (range_with_len 0 n);
}

-- no rule of an instance fails in a generated round
abbrev pub GeneratedFits : Type 0
GeneratedFits = (n : ℕ) → n ≤ MAX_APPLICANTS → IsValid (generated n)

-- the sizes of the round of n applicants, who have six choices each at most
pub record HasSizes (n : ℕ) (round : Market) : Type 0 where
  pub pools : length round.pools ≡ pool_count n
  pub progs : length round.progs ≡ prog_count n
  pub applicants : length round.lists ≡ n
  pub choices : sum_by length round.lists ≤ 6 * n

-- a generated round has these sizes
abbrev pub GeneratedSizes : Type 0
GeneratedSizes = (n : ℕ) → HasSizes n (generated n)
