-- Records that are printed over a sink: what it took of them, and what is held back.
use Rattle.std.specs.Prelude.{◌≡◌, ⊤, ℕ, List, [], ◌++◌, Option, Some, None}
use Rattle.std.specs.Borrow.{MutBor}
use Rattle.sl_io.specs.declared.sink.WriteError.{WriteError}
use Rattle.sl_io.specs.declared.sink.WriteError.TheVariants.{Fault}
use Rattle.sl_io.specs.Sink.{Output, AppendsPart, RoseIn, KeepsCount}
use Rattle.sl_codes.specs.declared.printer.Printer.{Printer}

-- a printer prints over this sink, of which it has printed nothing
pub record PrintsOver {O : Type 0} (sink : MutBor O) (printer : Printer O) : Type 0 where
  pub same_sink : printer.out.ghost_name ≡ sink.ghost_name
  pub same : printer.out.now ≡ sink.now
  pub nothing_held : printer.held.now.items ≡ []

-- a printer holds nothing back
abbrev pub HoldsNothing : {O : Type 0} → Printer O → Type 0
HoldsNothing printer = printer.held.now.items ≡ []

-- of a text, a sink took the first bytes after what it had taken before, and the rest is held
abbrev pub IsPrinted : Option (List ℕ) → Option (List ℕ) → List ℕ → List ℕ → Type 0
IsPrinted None taken held text = ⊤
IsPrinted (Some before) taken held text = (front : List ℕ) × (taken ≡ Some (before ++ front)) × (text ≡ front ++ held)

-- a printer still prints over the same sink, whose count of faults didn't fall
pub record KeepsSink {O : Type 0} (output : O → Output) (old new : Printer O) : Type 0 where
  pub same_sink : new.out.ghost_name ≡ old.out.ghost_name
  pub never_falls : KeepsCount (output old.out.now) (output new.out.now)

-- a text was printed after what was printed before
pub record Prints {O : Type 0} (output : O → Output) (old new : Printer O) (text : List ℕ) : Type 0 where
  pub put : IsPrinted (output old.out.now).taken (output new.out.now).taken
      new.held.now.items (old.held.now.items ++ text)

-- printing a text broke off: the sink took a part of what was to be put, and at a fault its count rose
pub record BreaksOff {O : Type 0} (output : O → Output) (old new : Printer O)
    (text : List ℕ) (error : WriteError) : Type 0 where
  pub part : AppendsPart (output old.out.now).taken (output new.out.now).taken (old.held.now.items ++ text)
  pub cause : error ≡ Fault → RoseIn (output old.out.now) (output new.out.now)
