-- What contracts see of a sink in memory.
use Rattle.std.specs.Prelude.{ℕ, List, Some}
use Rattle.sl_io.specs.Sink.{Output}

-- the bytes that were taken, how many there may be, and the count of faults
pub record MemBytes : Type 0 where
  pub bytes : List ℕ
  pub room : ℕ
  pub faults : ℕ

-- it tells its bytes
abbrev pub kept : MemBytes → Output
kept s = record { taken = Some s.bytes; faults = s.faults }
