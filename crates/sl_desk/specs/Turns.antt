-- How long a worker can go on: what it knows rises with each raise, to the greatest limit at most,
-- and between two raises the pools left to scan get fewer.
use Rattle.std.specs.Prelude.{◌≡◌, ℕ, ◌+◌, ◌-◌, ◌*◌, ◌≤◌, Bool, true, false, List}
use Rattle.std.specs.Prelude.{length, get_or, sum, sum_by, slice_index, filter}
use Rattle.sl_types.specs.declared.kinds.TheConstants.{MAX_SCORE}
use Rattle.sl_floor.specs.Held.{AreLimits}

-- how far these numbers can still rise, all together
abbrev pub room_above : List ℕ → ℕ
room_above known = sum_by (λ y. MAX_SCORE + 1 - y) known

-- how many pools are left to scan
abbrev pub count_left : List Bool → ℕ
count_left left = length (filter (λ b. b) left)

-- how many turns can still come, with so many raises at most:
-- those of the pools left, and after each raise those of all pools
abbrev pub turns_within : ℕ → List Bool → ℕ
turns_within raises left = raises * (length left + 1) + count_left left

-- what a worker knows after n raises: no number fell, and their sum rose by n or more
pub record RisesBy (known later : List ℕ) (n : ℕ) : Type 0 where
  pub each : length later ≡ length known
  pub limits : AreLimits later
  pub rises : (P : ℕ) → slice_index known P ≤ slice_index later P
  pub more : sum known + n ≤ sum later

-- P was left to scan and isn't, and no pool is that wasn't
pub record IsScanned (left after : List Bool) (P : ℕ) : Type 0 where
  pub each : length after ≡ length left
  pub before : get_or left P false ≡ true
  pub done : get_or after P false ≡ false
  pub none_joined : (Q : ℕ) → get_or after Q false ≡ true → get_or left Q false ≡ true

-- a turn at P without a raise
abbrev pub IsQuietTurn : List ℕ → List ℕ → List Bool → List Bool → ℕ → Type 0
IsQuietTurn known later left after P = RisesBy known later 0 × IsScanned left after P

-- a turn with a raise, after which any pool may be left
abbrev pub IsRaisingTurn : List ℕ → List ℕ → List Bool → List Bool → Type 0
IsRaisingTurn known later left after = RisesBy known later 1 × (length after ≡ length left)
