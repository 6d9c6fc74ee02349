use Rattle.std.proofs.Common.{◌≡◌, ◌≤◌, length, take}
use Rattle.sl_amend.specs.DraftMarket.{marked}
use Rattle.sl_amend.proofs.present.present_codes.Given as goal

-- the codes of those so far who are present
abbrev pub invariant-loop-number : goal.invariant-loop-number
invariant-loop-number l = (l.copy ≡ marked (take l.number l.present) (take l.number l.codes)) × (length l.copy ≤ l.number)
