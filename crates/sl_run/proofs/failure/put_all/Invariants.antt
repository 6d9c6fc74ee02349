use Rattle.std.proofs.Common.{◌≤◌, map, take}
use Rattle.std.specs.List.{concat}
use Rattle.std.specs.Io.KnownBytes.{Appends}
use Rattle.sl_run.proofs.failure.put_all.Given as goal

abbrev pub invariant-loop-piece : goal.invariant-loop-piece
invariant-loop-piece g l = ((g.E.Sink.output l.fn.err).faults ≤ (g.E.Sink.output l.err).faults) × Appends (g.E.Sink.output l.fn.err).taken (g.E.Sink.output l.err).taken (concat (take l.piece-index (map (λ s. s.now) l.pieces)))
