-- Byte strings that lie in one another's wake in one vector of bytes, known by where each ends.
use Rattle.std.specs.Prelude.{◌≤◌, ◌<◌, ◌-◌, ◌==◌, if◌then◌else◌, ℕ, List, [], ◌∷◌, length, get_or, slice_range}

-- the strings, of which the first begins at a place and each ends at one of these places
abbrev pub pieces : List ℕ → ℕ → List ℕ → List (List ℕ)
pieces bytes start [] = []
pieces bytes start (stop ∷ stops) = slice_range bytes start stop ∷ pieces bytes stop stops

-- where the string of a number begins: at the start, or where the one before it ends
abbrev pub start_of : ℕ → List ℕ → ℕ → ℕ
start_of start stops k = if k == 0 then start else get_or stops (k - 1) 0

-- no string ends before it begins or after the last byte
abbrev pub AreEnds : List ℕ → List ℕ → Type 0
AreEnds bytes stops =
    (k : ℕ) → k < length stops
    → (start_of 0 stops k ≤ get_or stops k 0) × (get_or stops k 0 ≤ length bytes)
