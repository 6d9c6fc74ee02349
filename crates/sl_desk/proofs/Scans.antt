-- Pools that are left to scan.
use Rattle.std.proofs.Common.{ℕ, true≢false, sym, ◌∙◌, arith, inl, inr}
use Rattle.std.proofs.lemmas.Bool.{cases_lt}
use Rattle.sl_floor.specs.Floor.{SeatValue, HasNoneLeft}
use Rattle.sl_floor.specs.Sets.{AreDownFrom, IsNextUp}
use Rattle.sl_desk.specs.Scanning.{IsNext}
use Rattle.sl_desk.proofs.Owed.{none_any}

-- none from the first pool on
pub none_from_first : (seat : SeatValue) → AreDownFrom seat.view.actor.left 0 → HasNoneLeft seat
none_from_first seat down = none_any seat.view.actor.left (λ k h. down k (omega arith))

-- the next pool, from the cursor on
pub next_here : (seat : SeatValue) (cursor P : ℕ) → IsNextUp seat.view.actor.left cursor P → IsNext seat cursor P
next_here seat cursor P next = inl (next.past, next.first)

-- and where none is left from the cursor on, from the first pool on
pub next_round : (seat : SeatValue) (cursor P : ℕ) → AreDownFrom seat.view.actor.left cursor → IsNextUp seat.view.actor.left 0 P → IsNext seat cursor P
next_round seat cursor P down next = elim (cases_lt P cursor) [
  | inl less ↦ inr (less, (λ Q low h. down Q low), next.first)
  | inr more ↦ absurd (true≢false (sym next.up ∙ down P more))
]
