use Rattle.std.proofs.Common.{◌≡◌, ◌<◌, ◌∙◌, ℕ, List, [], map, get_or, length, sym, subst, inr, arith}
use Rattle.std.specs.Borrow.{Bor}
use Rattle.std.specs.Io.KnownBytes.{Appends}
use Rattle.std.proofs.KnownBytes.{Appends-trans}
use Rattle.std.proofs.lemmas.List.{length-map, get_or-map}
use Rattle.sl_io.specs.Sink.{AppendsPart}
use Rattle.sl_run.proofs.Lines.{concat_more, part_of_line}
use Rattle.sl_run.proofs.failure.put_all.Goals as goal

-- the piece at hand is that of the list
piece_at : (pieces : List (Bor (List ℕ))) (i : ℕ) (d : Bor (List ℕ)) → i < length pieces → (get_or pieces i d).now ≡ get_or (map (λ s. s.now) pieces) i []
piece_at pieces i d lt = sym (get_or-map (λ (s : Bor (List ℕ)). s.now) pieces i d [] lt)

pub returns-in-Err : goal.returns-in-Err
returns-in-Err g c =
    let pieces = map (λ (s : Bor (List ℕ)). s.now) c.args.pieces.now in
    let i = c.loop-piece.piece-index in
    let within : i < length pieces = rw (length-map c.args.pieces.now (λ (s : Bor (List ℕ)). s.now)) c.loop-piece-test.true in
    let piece = c.as_bytes.ensures.value ∙ piece_at c.args.pieces.now i _ c.loop-piece-test.true in
    let part = subst (λ (t : List ℕ). AppendsPart (g.E.Sink.output c.loop-piece.err).taken (g.E.Sink.output c.put.new.self).taken t) piece c.in-Err.ensures.part in
    let later = c.loop-piece.invariant.0 in
    let rose = c.in-Err.ensures.cause in
    inr (part_of_line _ _ _ pieces i within c.loop-piece.invariant.1 part, omega (arith, later, rose))

pub loop-piece-preserved : goal.loop-piece-preserved
loop-piece-preserved g c =
    let pieces = map (λ (s : Bor (List ℕ)). s.now) c.args.pieces.now in
    let i = c.loop-piece.piece-index in
    let within : i < length pieces = rw (length-map c.args.pieces.now (λ (s : Bor (List ℕ)). s.now)) c.loop-piece-test.true in
    let piece = c.as_bytes.ensures.value ∙ piece_at c.args.pieces.now i _ c.loop-piece-test.true in
    let whole = subst (λ (t : List ℕ). Appends (g.E.Sink.output c.loop-piece.err).taken (g.E.Sink.output c.put.new.self).taken t) piece c.in-Ok.ensures.bytes in
    let before = c.loop-piece.invariant.0 in
    let later = c.put.ensures.never_falls in
    (omega (arith, before, later), subst (Appends (g.E.Sink.output c.args.err.now).taken (g.E.Sink.output c.put.new.self).taken) (concat_more pieces i within) (Appends-trans _ _ _ _ _ c.loop-piece.invariant.1 whole))
