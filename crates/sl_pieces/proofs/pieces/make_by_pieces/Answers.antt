use Rattle.std.proofs.Common.{◌≡◌, ◌+◌, ◌<◌, ◌-◌, ◌∙◌, ℕ, ap, arith}
use Rattle.std.specs.List.{range_with_len}
use Rattle.rayon.specs.Numbers.{nat_range}
use Rattle.rayon.proofs.ToStd.{nat_range-All}
use Rattle.sl_pieces.specs.declared.pieces.TheConstants.{PIECES}
use Rattle.sl_pieces.specs.Pieces.{piece_start}
use Rattle.sl_pieces.specs.contracts.pieces.make_by_pieces.F-Fn.{words}
use Rattle.sl_pieces.proofs.Collected.{pieces_collected}
use Rattle.sl_pieces.proofs.pieces.make_by_pieces.Goals as goal

pub collect-requires-clause-ready : goal.collect-requires-clause-ready
collect-requires-clause-ready g c κs within =
    let ends = c.into_par_iter.ensures in
    let inside = nat_range-All (λ i. i < PIECES) 0 PIECES (λ i low high. high) in
    rw (c.map.ensures.base, c.map.ensures.f, c.with_min_len.ensures.base, ends.0, ends.1) (λ k d lt. ((inside k d lt, c.requires.few, c.requires.accepts), λ y p. tt))

pub returns : goal.returns
returns g c =
    let ends = c.into_par_iter.ensures in
    let n : ℕ = PIECES in
    let whole : n - 0 ≡ n = omega arith in
    let h = c.in_ok-collect.ensures in
    let chain = rw (c.map.ensures.base, c.map.ensures.f, c.with_min_len.ensures.base) at h.1 in
    let places = chain.1 ∙ (λ i. nat_range (ends.0 i) (ends.1 i)) ∙ ap (range_with_len 0) whole in
    pieces_collected (λ k s. (words g.row.T g.row.F g.row.rt g.F.Fn).post c.args.make (piece_start c.args.count k) (piece_start c.args.count (k + 1)) s) (range_with_len 0 PIECES) h.0 _ c.in_ok-collect.field-0 h.2 (rw places at chain.2)
