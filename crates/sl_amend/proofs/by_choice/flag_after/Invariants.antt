use Rattle.std.proofs.Common.{length}
use Rattle.std.specs.List.{list_any, range_with_len}
use Rattle.sl_amend.specs.Amended.{origins_of}
use Rattle.sl_amend.specs.Touched.{is_off_after, IsFlaggedBy}
use Rattle.sl_amend.proofs.by_choice.flag_after.Given as goal

abbrev pub invariant-loop-number : goal.invariant-loop-number
invariant-loop-number l = IsFlaggedBy (λ P. list_any (is_off_after l.new (origins_of l.origins) l.still P) (range_with_len 0 l.number)) (length l.new.pools) l.fn.flags l.flags
