use Rattle.std.proofs.Common.{arith, refl}
use Rattle.sl_amend.proofs.Pieces.{five_ends}
use Rattle.sl_amend.proofs.row.Fields.of.Goals as goal

pub invariant_of-result : goal.invariant_of-result
invariant_of-result c =
    let first = c.in_ok-first.ensures in
    let second = c.in_ok-second.ensures in
    let third = c.in_ok-third.ensures in
    let fourth = c.in_ok-fourth.ensures in
    let fifth = c.in_ok-fifth.ensures in (
      refl,
      five_ends _ _ _ _ _ _ (omega (arith, first.end, second.after)) (omega (arith, second.end, third.after)) (omega (arith, third.end, fourth.after))
          (omega (arith, fourth.end, fifth.after)) (omega (arith, fifth.end)),
    )
