use Rattle.std.proofs.Common.{map, take}
use Rattle.std.specs.List.{concat}
use Rattle.sl_io.specs.Sink.{Takes, KeepsCount}
use Rattle.sl_run.proofs.Lines.{line_of_fields}
use Rattle.sl_run.proofs.demo.put_records.Given as goal

abbrev pub invariant-loop-record : goal.invariant-loop-record
invariant-loop-record g l = record {
  never_falls : KeepsCount (g.O.Sink.output l.fn.out) (g.O.Sink.output l.out);
  taken : Takes (g.O.Sink.output l.fn.out) (g.O.Sink.output l.out) (concat (take l.record-index (map line_of_fields l.records)));
}
