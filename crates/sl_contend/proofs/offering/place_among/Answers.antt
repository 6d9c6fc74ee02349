use Rattle.std.proofs.Common.{◌≡◌, ◌++◌, ◌-◌, ◌<◌, [], ℕ, List, sym, ap, ◌∙◌, arith, refl}
use Rattle.std.specs.Prelude.{flat_map}
use Rattle.std.specs.List.{range_with_len}
use Rattle.sl_contend.specs.declared.offer.Offer.{Offer}
use Rattle.sl_contend.specs.declared.rows.Placed.{Placed}
use Rattle.sl_contend.specs.Offers.{offers_by}
use Rattle.sl_contend.specs.Pieces.{choices_between}
use Rattle.sl_contend.specs.Rows.{placed_in}
use Rattle.sl_contend.proofs.Placed.{applicants_more}
use Rattle.sl_contend.proofs.offering.place_among.Goals as goal

pub loop-number-preserved : goal.loop-number-preserved
loop-number-preserved c =
    let market = c.args.instance.now in
    let n : ℕ = c.loop-number.number in
    let i = c.loop-number.invariant in
    record {
      after = omega (arith, i.after);
      within = c.in_ok-place_choices.ensures.within;
      placed = λ P. c.in_ok-place_choices.ensures.placed P ∙ (ap (λ (xs : List Offer). xs ++ offers_by market P n) (i.placed P) ∙ sym (applicants_more (offers_by market P) c.args.first n i.after));
    }
