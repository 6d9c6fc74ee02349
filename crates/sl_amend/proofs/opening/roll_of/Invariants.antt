use Rattle.std.proofs.Common.{◌≡◌, true, length, take, replicate}
use Rattle.std.specs.Prelude.{sum_by}
use Rattle.sl_amend.specs.Roll.{IsRoll, lists_of}
use Rattle.sl_amend.proofs.opening.roll_of.Given as goal

-- the roll has the applicants so far
abbrev pub invariant-loop-number : goal.invariant-loop-number
invariant-loop-number l =
    (lists_of l.roll ≡ take l.number l.instance.lists)
    × (l.roll.present.items ≡ replicate l.number true)
    × (l.roll.merits.trees.items ≡ l.fn.trees.items)
    × IsRoll l.roll
    × (l.roll.applicants ≡ l.number)
    × (l.roll.applications ≡ sum_by length (take l.number l.instance.lists))
