-- What writes and a flush, one after the other, do to the bytes that a writer tells.
use Rattle.std.proofs.Common.{◌++◌, List, Option, Some, None, length, ℕ, take, sym, ap, ◌∙◌}
use Rattle.std.proofs.Math.Seq.{take-length}
use Rattle.std.specs.Io.KnownBytes.{Appends, Keeps}
use Rattle.sl_io.specs.Sink.{AppendsPart}

-- the first bytes of a piece, and then nothing more, are a part of it
pub AppendsPart-kept : (a b c : Option (List ℕ)) (piece : List ℕ) (n : ℕ) → Appends a b (take n piece) → Keeps b c → AppendsPart a c piece
AppendsPart-kept None b c piece n p q = tt
AppendsPart-kept (Some x) None c piece n p q = absurd p
AppendsPart-kept (Some x) (Some y) None piece n p q = absurd q
AppendsPart-kept (Some x) (Some y) (Some z) piece n p q = (n, q ∙ p)

-- a whole piece, and then nothing more, is a part of it
pub AppendsPart-whole : (a b c : Option (List ℕ)) (piece : List ℕ) → Appends a b piece → Keeps b c → AppendsPart a c piece
AppendsPart-whole None b c piece p q = tt
AppendsPart-whole (Some x) None c piece p q = absurd p
AppendsPart-whole (Some x) (Some y) None piece p q = absurd q
AppendsPart-whole (Some x) (Some y) (Some z) piece p q = (length piece, q ∙ p ∙ ap (λ l. x ++ l) (sym (take-length piece)))
