use Rattle.std.proofs.Common.{◌≡◌, ℕ, ◌<◌, true, false, length, nat_eq, slice_index, All}
use Rattle.std.specs.List.{list_any}
use Rattle.sl_types.specs.Market.{lies_in}
use Rattle.sl_nested.specs.Counting.{StaysClear}
use Rattle.sl_nested.proofs.clearing.clear_outward.Given as goal

abbrev pub invariant-loop-here : goal.invariant-loop-here
invariant-loop-here l = record {
  size : length l.scratch ≡ length l.fn.scratch;
  within : All (λ Q. Q < length l.instance.pools) l.here-iterator;
  cleared : (C : ℕ) → list_any (λ Q. nat_eq Q C) l.here-iterator ≡ false → lies_in l.instance l.fn.from.0 C ≡ true → slice_index l.scratch C ≡ 0;
  zeros : StaysClear l.fn.scratch l.scratch;
}
