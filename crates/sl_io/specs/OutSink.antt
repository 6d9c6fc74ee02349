-- What contracts see of a sink over a writer.
use Rattle.std.specs.Prelude.{ℕ, List, Option}
use Rattle.sl_io.specs.declared.out_sink.OutSink.{OutSink}
use Rattle.sl_io.specs.Sink.{Output}

-- the writer
abbrev pub out_writer : {W : Type 0} → OutSink W → W
out_writer s = s.inner

-- the count of faults
abbrev pub out_faults : {W : Type 0} → OutSink W → ℕ
out_faults s = s.faults

-- it tells what its writer tells
abbrev pub written : {W : Type 0} → (W → Option (List ℕ)) → OutSink W → Output
written contents s = record { taken = contents (out_writer s); faults = out_faults s }
