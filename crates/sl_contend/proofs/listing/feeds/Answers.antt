use Rattle.std.proofs.Common.{length}
use Rattle.std.specs.Prelude.{IfOk}
use Rattle.sl_laws.specs.Stable.{feeds}
use Rattle.sl_contend.specs.Contention.{number_of_pool}
use Rattle.sl_contend.specs.Pieces.{HoldFeeding}
use Rattle.sl_contend.proofs.Ranged.{all_cut, joined_range, each_held}
use Rattle.sl_contend.proofs.listing.feeds.Goals as goal

pub join_rows-requires-clause-cut : goal.join_rows-requires-clause-cut
join_rows-requires-clause-cut g c =
    let market = c.args.instance.now in
    let all = all_cut (length market.pools) c.pools.result (λ i j r. IfOk r (HoldFeeding market i j)) c.in_ok-pieces.pieces.items (λ i j part h. h.cut) c.in_ok-pieces.ensures in
    rw (c.as_slice.ensures.value, c.pools-2.ensures.count) all

pub returns : goal.returns
returns g c =
    let market = c.args.instance.now in
    let rows = rw (c.pools-2.ensures.count, c.as_slice.ensures.value) at c.join_rows.ensures.rows in
    let cut = rw c.pools-2.ensures.count at c.join_rows.ensures.cut in
    let whole = joined_range number_of_pool (feeds market) (length market.pools) c.pools.result (λ i j r. IfOk r (HoldFeeding market i j)) c.in_ok-pieces.pieces.items c.join_rows.result (λ i j part h. h) c.in_ok-pieces.ensures cut rows in
    each_held number_of_pool (feeds market) c.join_rows.result market (length market.pools) (rw c.pools.ensures.count at whole)
