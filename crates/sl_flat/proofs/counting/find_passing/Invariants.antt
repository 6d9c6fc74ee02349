use Rattle.std.proofs.Common.{◌≡◌, ◌+◌, ◌<◌, ◌≤◌, All, take, drop, slice_index}
use Rattle.sl_flat.proofs.Passed.{count_of, tally_of}
use Rattle.sl_flat.proofs.counting.find_passing.Given as goal

abbrev pub invariant-loop-offer : goal.invariant-loop-offer
invariant-loop-offer l = record {
  few : l.count ≤ l.quota;
  all : count_of l.instance (slice_index l.reads) l.pool.0 (take l.offer-index l.offer-items) ≡ l.count;
  reach : 1 ≤ l.count → tally_of l.instance (slice_index l.reads) l.pool.0 l.last (take l.offer-index l.offer-items) ≡ l.count;
  short : 1 ≤ l.count → tally_of l.instance (slice_index l.reads) l.pool.0 (l.last + 1) (take l.offer-index l.offer-items) < l.count;
  low : 1 ≤ l.count → All (λ o. o.score ≤ l.last) (drop l.offer-index l.offer-items);
}
