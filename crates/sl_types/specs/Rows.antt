-- Rows of items that stand one after another in one list, each between two starts.
use Rattle.std.specs.Prelude.{◌≡◌, ℕ, ◌+◌, ◌-◌, ◌<◌, ◌≤◌, List, length, map, slice_index, slice_range}
use Rattle.std.specs.List.{range_with_len}

-- row k of these items, which goes from start k to the next
abbrev pub row_of : {A : Type 0} → List A → List ℕ → ℕ → List A
row_of items starts k = slice_range items (slice_index starts k) (slice_index starts (k + 1))

-- the rows of these items, one fewer than starts
abbrev pub rows_of : {A : Type 0} → List A → List ℕ → List (List A)
rows_of items starts = map (row_of items starts) (range_with_len 0 (length starts - 1))

-- each start is at most the next, and the last row ends where the items end
pub record AreCut {A : Type 0} (items : List A) (starts : List ℕ) : Type 0 where
  pub begins : 0 < length starts
  pub rise : (k : ℕ) → k + 1 < length starts → slice_index starts k ≤ slice_index starts (k + 1)
  pub within : (k : ℕ) → k < length starts → slice_index starts k ≤ length items
  pub ends : slice_index starts (length starts - 1) ≡ length items
