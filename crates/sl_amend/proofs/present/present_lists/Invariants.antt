use Rattle.std.proofs.Common.{◌≡◌, take}
use Rattle.sl_instance.specs.Lists.{contents}
use Rattle.sl_amend.specs.DraftMarket.{marked}
use Rattle.sl_amend.specs.Roll.{lists_of}
use Rattle.sl_amend.proofs.present.present_lists.Given as goal

-- the lists of those so far who are present
abbrev pub invariant-loop-app : goal.invariant-loop-app
invariant-loop-app l = contents l.lists.items ≡ marked (take l.app l.roll.present.items) (take l.app (lists_of l.roll))
