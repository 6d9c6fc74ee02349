use Rattle.std.proofs.Common.{◌≡◌, ◌<◌, ℕ, slice_index}
use Rattle.sl_check.proofs.lowest.wrong_count.Given as goal

abbrev pub invariant-loop-number : goal.invariant-loop-number
invariant-loop-number l = (P : ℕ) → P < l.number → slice_index l.counts P ≡ slice_index l.made.items P
