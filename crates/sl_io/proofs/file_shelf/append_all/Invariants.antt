use Rattle.std.proofs.Common.{◌≡◌, ◌≤◌, ◌+◌, length, take, drop, ℕ, List, Option}
use Rattle.std.specs.Io.KnownBytes.{Consumes}
use Rattle.sl_io.specs.declared.shelf.TheConstants.{LONGEST_FILE}
use Rattle.sl_io.proofs.file_shelf.append_all.Given as goal

-- each turn before took at least one byte, and what they took was appended
pub record Appended (old new : List ℕ) (turn : ℕ) (before now : Option (List ℕ)) : Type 0 where
  pub front : take (length old) new ≡ old
  pub turns : length old + turn ≤ length new
  pub short : length new ≤ length old + LONGEST_FILE
  pub taken : Consumes before now (drop (length old) new)

abbrev pub invariant-loop-turn : goal.invariant-loop-turn
invariant-loop-turn g l = (l.start ≡ length l.fn.into.items) × (length l.buffer ≡ 8192)
    × Appended l.fn.into.items l.into.items l._turn (g.F.Read.remaining l.fn.file) (g.F.Read.remaining l.file)
