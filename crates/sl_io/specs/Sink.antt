-- What a sink takes and counts where it fails.
use Rattle.std.specs.Prelude.{◌≡◌, ◌≤◌, ◌++◌, ⊤, ℕ, List, take, Option, Some, None, Result, Ok, Err}
use Rattle.std.specs.Io.KnownBytes.{Appends}
use Rattle.sl_io.specs.declared.sink.SinkFault.{SinkFault}
use Rattle.sl_io.specs.Count.{next_count, Rose}

-- what a sink tells: the bytes that it took, where it tells them, and its count of faults
pub record Output : Type 0 where
  pub taken : Option (List ℕ)
  pub faults : ℕ

-- bytes that are told still are, and the first bytes of the piece were appended
abbrev pub AppendsPart : Option (List ℕ) → Option (List ℕ) → List ℕ → Type 0
AppendsPart None new piece = ⊤
AppendsPart (Some xs) None piece = ⊥
AppendsPart (Some xs) (Some ys) piece = (n : ℕ) × (ys ≡ xs ++ take n piece)

-- the piece was appended to what a sink took
abbrev pub Takes : Output → Output → List ℕ → Type 0
Takes before after piece = Appends before.taken after.taken piece

-- the first bytes of it were
abbrev pub TakesPart : Output → Output → List ℕ → Type 0
TakesPart before after piece = AppendsPart before.taken after.taken piece

-- the count of faults rose
abbrev pub RoseIn : Output → Output → Type 0
RoseIn before after = Rose before.faults after.faults

-- it didn't fall
abbrev pub KeepsCount : Output → Output → Type 0
KeepsCount before after = before.faults ≤ after.faults

-- a fault is counted, and nothing else is
abbrev pub Counts : Result (Unit {0}) SinkFault → ℕ → ℕ → Type 0
Counts (Ok u) before now = now ≡ before
Counts (Err e) before now = now ≡ next_count before
