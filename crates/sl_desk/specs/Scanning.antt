-- The order in which a worker goes round the pools.
use Rattle.std.specs.Prelude.{ℕ, ◌+◌, ◌<◌, ◌≤◌, ◌⊎◌, nat_lt, length, if◌then◌else◌}
use Rattle.sl_floor.specs.Floor.{SeatValue}
use Rattle.sl_desk.specs.Settling.{IsDone}

-- no pool from a number up to another is left to scan
abbrev pub LeavesNone : SeatValue → ℕ → ℕ → Type 0
LeavesNone seat from to = (Q : ℕ) → from ≤ Q → Q < to → IsDone seat Q

-- The pools that a worker passes on its way from the cursor to P aren't left to scan: those
-- between, or where P stands before the cursor, those from the cursor to the last and from the
-- first to P.
abbrev pub IsNext : SeatValue → ℕ → ℕ → Type 0
IsNext seat cursor P =
    ((cursor ≤ P) × LeavesNone seat cursor P)
    ⊎ ((P < cursor) × LeavesNone seat cursor (length seat.view.market.pools) × LeavesNone seat 0 P)

-- the pool after P, and after the last the first
abbrev pub number_after : ℕ → ℕ → ℕ
number_after pools P = if nat_lt (P + 1) pools then P + 1 else 0
