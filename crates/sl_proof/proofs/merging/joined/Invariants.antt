use Rattle.std.proofs.Common.{◌≡◌, take, ◌++◌}
use Rattle.sl_proof.specs.Merging.{raises_of}
use Rattle.sl_proof.proofs.merging.joined.Given as goal

abbrev pub invariant-loop-entry : goal.invariant-loop-entry
invariant-loop-entry l = l.raises.items ≡ l.kept ++ raises_of (take l.entry-index l.sorted)
