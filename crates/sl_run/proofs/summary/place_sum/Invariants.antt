use Rattle.std.proofs.Common.{◌≡◌, ◌≤◌, ◌*◌, take, slice_index}
use Rattle.std.specs.Prelude.{sum_by}
use Rattle.sl_laws.specs.Limits.{admitted_choice}
use Rattle.sl_run.specs.Summary.{place_of}
use Rattle.sl_run.proofs.summary.place_sum.Given as goal

abbrev pub invariant-loop-number : goal.invariant-loop-number
invariant-loop-number l = record {
  added : l.places ≡ sum_by (λ choices. place_of (admitted_choice l.instance (slice_index l.doc.limits) choices)) (take l.number l.instance.lists);
  low : l.places ≤ 4294967295 * l.number;
}
