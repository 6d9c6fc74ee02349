use Rattle.std.proofs.Common.{◌≡◌, true, take}
use Rattle.std.specs.List.{list_all}
use Rattle.sl_instance.specs.Lists.{contents}
use Rattle.sl_amend.specs.Merits.{is_in_none}
use Rattle.sl_amend.proofs.conflicts.are_in_none.Given as goal

-- no choice of the lists so far is in a conflict
abbrev pub invariant-loop-app : goal.invariant-loop-app
invariant-loop-app l = list_all (is_in_none l.merits) (take l.app (contents l.lists)) ≡ true
