use Rattle.std.proofs.Common.{length}
use Rattle.std.specs.List.{list_any, range_with_len}
use Rattle.sl_amend.specs.Touched.{differs_under, IsFlaggedBy}
use Rattle.sl_amend.proofs.by_quota.mark_trees.Given as goal

abbrev pub invariant-loop-number : goal.invariant-loop-number
invariant-loop-number l = IsFlaggedBy (λ R. list_any (differs_under l.old l.new R) (range_with_len 0 l.number)) (length l.old.pools) l.fn.marks l.marks
