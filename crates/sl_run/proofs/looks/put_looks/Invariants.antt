use Rattle.std.proofs.Common.{map, take}
use Rattle.std.specs.List.{concat}
use Rattle.sl_io.specs.Sink.{Takes, KeepsCount}
use Rattle.sl_run.proofs.Looked.{lines_of_looks}
use Rattle.sl_run.proofs.looks.put_looks.Given as goal

abbrev pub invariant-loop-number : goal.invariant-loop-number
invariant-loop-number g l = record {
  never_falls : KeepsCount (g.O.Sink.output l.fn.out) (g.O.Sink.output l.out);
  taken : Takes (g.O.Sink.output l.fn.out) (g.O.Sink.output l.out) (concat (take l.number (lines_of_looks l.named (map (λ v. v.items) l.seen))));
}
