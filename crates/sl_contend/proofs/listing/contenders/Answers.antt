use Rattle.std.proofs.Common.{length}
use Rattle.std.specs.Prelude.{IfOk}
use Rattle.sl_contend.specs.Contention.{contends, number_of_app}
use Rattle.sl_contend.specs.Pieces.{HoldContenders}
use Rattle.sl_contend.proofs.Ranged.{all_cut, joined_range, each_held}
use Rattle.sl_contend.proofs.listing.contenders.Goals as goal

pub join_rows-requires-clause-cut : goal.join_rows-requires-clause-cut
join_rows-requires-clause-cut g c =
    let market = c.args.instance.now in
    let all = all_cut (length market.pools) c.applicants.result (λ i j r. IfOk r (HoldContenders market i j)) c.in_ok-pieces.pieces.items (λ i j part h. h.cut) c.in_ok-pieces.ensures in
    rw (c.as_slice.ensures.value, c.pools.ensures.count) all

pub returns : goal.returns
returns g c =
    let market = c.args.instance.now in
    let rows = rw (c.pools.ensures.count, c.as_slice.ensures.value) at c.join_rows.ensures.rows in
    let cut = rw c.pools.ensures.count at c.join_rows.ensures.cut in
    let whole = joined_range number_of_app (contends market) (length market.pools) c.applicants.result (λ i j r. IfOk r (HoldContenders market i j)) c.in_ok-pieces.pieces.items c.join_rows.result (λ i j part h. h) c.in_ok-pieces.ensures cut rows in
    each_held number_of_app (contends market) c.join_rows.result market (length market.lists) (rw c.applicants.ensures.count at whole)
