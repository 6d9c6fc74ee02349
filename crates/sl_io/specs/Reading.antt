-- What a reader gave.
use Rattle.std.specs.Prelude.{◌<◌, ◌+◌, ⊤, ℕ, List, length, Option, Some, None}
use Rattle.std.specs.Io.KnownBytes.{Consumes, IsAtEnd}

-- a reader whose bytes are known gave more than so many of them
abbrev pub GivesMoreThan : ℕ → Option (List ℕ) → Option (List ℕ) → Type 0
GivesMoreThan count None now = ⊤
GivesMoreThan count (Some before) None = ⊥
GivesMoreThan count (Some before) (Some now) = count + length now < length before

-- some reader gave these bytes up to its end
abbrev pub IsReadToEnd : {F : Type 0} → (F → Option (List ℕ)) → List ℕ → Type 0
IsReadToEnd {F} remaining bytes =
    (before : F) × (now : F) × Consumes (remaining before) (remaining now) bytes × IsAtEnd (remaining now)

-- some reader gave more than so many bytes
abbrev pub IsLonger : {F : Type 0} → ℕ → (F → Option (List ℕ)) → Type 0
IsLonger {F} count remaining = (before : F) × (now : F) × GivesMoreThan count (remaining before) (remaining now)
