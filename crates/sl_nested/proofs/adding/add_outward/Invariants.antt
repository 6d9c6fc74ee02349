use Rattle.std.proofs.Common.{◌≡◌, ℕ, ◌<◌, true, length, nat_eq, slice_index, All}
use Rattle.std.specs.List.{list_any}
use Rattle.sl_types.specs.Market.{lies_in}
use Rattle.sl_nested.specs.Counting.{AreCounts, one_more}
use Rattle.sl_nested.proofs.Counters.{AreOwedAt, IsWay}
use Rattle.sl_nested.proofs.adding.add_outward.Given as goal

abbrev pub invariant-loop-here : goal.invariant-loop-here
invariant-loop-here l = record {
  size : length l.scratch ≡ length l.fn.scratch;
  within : All (λ Q. Q < length l.instance.pools) l.here-iterator;
  way : IsWay l.instance l.here-iterator;
  ahead : list_any (λ Q. nat_eq Q l.pool.0) l.here-iterator ≡ true;
  round : (C : ℕ) → list_any (λ Q. nat_eq Q C) l.here-iterator ≡ true → lies_in l.instance l.fn.from.0 C ≡ true;
  elsewhere : (C : ℕ) → (lies_in l.instance l.fn.from.0 C ≡ true → ⊥) → slice_index l.scratch C ≡ slice_index l.fn.scratch C;
  owed : (d : ℕ → ℕ) → AreCounts l.instance l.fn.pool.0 d l.fn.scratch → AreOwedAt l.instance l.fn.pool.0 (one_more d l.fn.from.0) (slice_index l.scratch) l.here-iterator;
}
