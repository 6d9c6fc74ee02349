use Rattle.std.proofs.Common.{◌≡◌, take}
use Rattle.sl_proof.specs.Progress.{HasReplayed}
use Rattle.sl_check.proofs.checking.first_unjust.Given as goal

abbrev pub invariant-loop-index : goal.invariant-loop-index
invariant-loop-index g l = record {
  instance : l.replay.instance ≡ l.fn.replay.instance;
  replayed : HasReplayed l.replay (take l.index l.raises);
}
