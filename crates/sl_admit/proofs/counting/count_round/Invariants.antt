use Rattle.std.proofs.Common.{◌≡◌, ◌<◌, ◌+◌, ℕ, length, nat_eq, slice_index, All}
use Rattle.std.specs.List.{list_any, IsDistinct}
use Rattle.sl_types.specs.Market.{lies_in}
use Rattle.sl_admit.specs.Counting.{one_if}
use Rattle.sl_admit.proofs.counting.count_round.Given as goal

-- each pool so far is counted, and those that are left aren't
abbrev pub invariant-loop-here : goal.invariant-loop-here
invariant-loop-here l = record {
  each : length l.counts ≡ length l.instance.pools;
  within : All (λ P. P < length l.instance.pools) l.here-iterator;
  once : IsDistinct nat_eq l.here-iterator;
  counted : (P : ℕ) → P < length l.instance.pools → slice_index l.counts P + one_if (list_any (λ Q. nat_eq Q P) l.here-iterator) ≡ slice_index l.fn.counts P + one_if (lies_in l.instance l.fn.pool.0 P);
}
