use Rattle.std.proofs.Common.{◌≡◌, ◌<◌, ℕ, length, slice_index}
use Rattle.std.specs.List.{count_by, range_with_len}
use Rattle.sl_admit.specs.Counting.{is_in, chosen_by}
use Rattle.sl_admit.proofs.counting.count_each.Given as goal

abbrev pub invariant-loop-number : goal.invariant-loop-number
invariant-loop-number l = record {
  each : length l.counts ≡ length l.instance.pools;
  counted : (P : ℕ) → P < length l.instance.pools → slice_index l.counts P ≡ count_by (λ a. is_in l.instance P (chosen_by l.instance l.admitted a)) (range_with_len 0 l.number);
}
