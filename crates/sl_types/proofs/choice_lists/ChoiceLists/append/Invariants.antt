use Rattle.std.proofs.Common.{◌≡◌, ◌++◌, take}
use Rattle.sl_types.proofs.choice_lists.ChoiceLists.append.Given as goal

-- the lists of before, and the other ones so far
abbrev pub invariant-loop-at : goal.invariant-loop-at
invariant-loop-at l = l.self ≡ l.fn.self ++ take l.at l.other
