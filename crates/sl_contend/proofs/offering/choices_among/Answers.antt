use Rattle.std.proofs.Common.{length, ◌∙◌}
use Rattle.std.specs.Prelude.{IfOk}
use Rattle.sl_contend.specs.Pieces.{HoldChoices}
use Rattle.sl_contend.specs.Rows.{AreCut, HoldPlaced}
use Rattle.sl_contend.proofs.Held.{if_ok_both}
use Rattle.sl_contend.proofs.offering.choices_among.Goals as goal

pub returns : goal.returns
returns c =
    let market = c.args.instance.now in
    let placed = c.in_ok-placed.placed.items in
    let rows = rw (c.pools.ensures.count, c.deref.ensures.value) at c.bucket.ensures.rows in
    let cut = rw c.pools.ensures.count at c.bucket.ensures.cut in
    if_ok_both c.bucket.result (AreCut (length market.pools)) (HoldPlaced (length market.pools) placed) (HoldChoices market c.args.first c.args.end)
    (λ made h held. record { cut = h; each = λ P lt. held P lt ∙ c.in_ok-placed.ensures.placed P }) cut rows
