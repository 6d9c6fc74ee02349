use Rattle.std.proofs.Common.{◌≡◌, length}
use Rattle.sl_amend.specs.Amended.{are_same_choices}
use Rattle.sl_amend.proofs.by_choice.are_same.Given as goal

abbrev pub invariant-loop-first : goal.invariant-loop-first
invariant-loop-first l = are_same_choices l.first l.second ≡ are_same_choices l.fn.first l.fn.second

abbrev pub decreases-loop-first : goal.decreases-loop-first
decreases-loop-first l = length l.first
