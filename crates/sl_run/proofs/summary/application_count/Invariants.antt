use Rattle.std.proofs.Common.{◌≡◌, ◌≤◌, ◌*◌, length, take}
use Rattle.std.specs.Prelude.{sum_by}
use Rattle.sl_types.specs.declared.kinds.TheConstants.{MAX_LIST}
use Rattle.sl_run.proofs.summary.application_count.Given as goal

abbrev pub invariant-loop-number : goal.invariant-loop-number
invariant-loop-number l = record {
  counted : l.count ≡ sum_by length (take l.number l.instance.lists);
  low : l.count ≤ MAX_LIST * l.number;
}
