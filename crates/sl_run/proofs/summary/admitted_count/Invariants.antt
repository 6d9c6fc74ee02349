use Rattle.std.proofs.Common.{◌≡◌, ◌≤◌, take, slice_index}
use Rattle.std.specs.Prelude.{count_by, is_some}
use Rattle.sl_laws.specs.Limits.{admitted_choice}
use Rattle.sl_run.proofs.summary.admitted_count.Given as goal

abbrev pub invariant-loop-number : goal.invariant-loop-number
invariant-loop-number l = record {
  counted : l.count ≡ count_by (λ choices. is_some (admitted_choice l.instance (slice_index l.doc.limits) choices)) (take l.number l.instance.lists);
  low : l.count ≤ l.number;
}
