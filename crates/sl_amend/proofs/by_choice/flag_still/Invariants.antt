use Rattle.std.proofs.Common.{length}
use Rattle.std.specs.List.{list_any, range_with_len}
use Rattle.sl_amend.specs.Amended.{is_still, origins_of}
use Rattle.sl_amend.specs.Touched.{IsFlaggedBy}
use Rattle.sl_amend.proofs.by_choice.flag_still.Given as goal

abbrev pub invariant-loop-number : goal.invariant-loop-number
invariant-loop-number l = IsFlaggedBy (λ a. list_any (is_still l.old l.new (origins_of l.origins) a) (range_with_len 0 l.number)) (length l.old.lists) l.fn.still l.still
