use Rattle.std.proofs.Common.{◌≡◌, take}
use Rattle.sl_proof.specs.Progress.{HasReplayed}
use Rattle.sl_amend.proofs.tests.amended.replays.Given as goal

abbrev pub invariant-loop-raise : goal.invariant-loop-raise
invariant-loop-raise g l = record {
  instance : l.replay.instance ≡ l.instance;
  replayed : HasReplayed l.replay (take l.raise-index l.raises);
}
