-- Ranges of numbers that are cut into pieces.
use Rattle.std.specs.Prelude.{ℕ, ◌+◌, ◌*◌, ◌/◌, ◌≤◌, List, Result, Ok}
use Rattle.std.specs.List.{AllZip, range_with_len}
use Rattle.std.specs.declared.alloc.AllocError.{AllocError}
use Rattle.sl_pieces.specs.declared.pieces.TheConstants.{PIECES}

-- where piece k of so many numbers begins
abbrev pub piece_start : ℕ → ℕ → ℕ
piece_start count k = k * count / PIECES

-- each range of so many numbers is accepted
abbrev pub AcceptsRanges : (ℕ → ℕ → Type 0) → ℕ → Type 0
AcceptsRanges Accepts count = (first end : ℕ) → first ≤ end → end ≤ count → Accepts first end

-- what is said of a range and of what was made for it, where memory lasts
abbrev pub Makes : Type 0 → Type 1
Makes T = ℕ → ℕ → Result T AllocError → Type 0

-- each of these was made for a piece, in order
abbrev pub AreMade : {T : Type 0} → Makes T → ℕ → List T → Type 0
AreMade Made count parts =
    AllZip (λ k part. Made (piece_start count k) (piece_start count (k + 1)) (Ok part))
    (range_with_len 0 PIECES) parts
