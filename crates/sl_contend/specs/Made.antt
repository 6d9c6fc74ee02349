-- The rows of contenders, as contracts see them.
use Rattle.std.specs.Prelude.{ℕ}
use Rattle.sl_types.specs.declared.kinds.AppId.{AppId}
use Rattle.sl_types.specs.declared.kinds.PoolId.{PoolId}
use Rattle.sl_contend.specs.declared.rows.Rows.{Rows}
use Rattle.sl_contend.specs.declared.offer.Offer.{Offer}
use Rattle.sl_contend.specs.Contention.{Contention, number_of_app, number_of_pool}
use Rattle.sl_contend.specs.Rows.{AreCut, rows_in, numbers_of}

-- so many rows of each kind
abbrev pub contention_in : ℕ → Rows Offer → Rows AppId → Rows PoolId → Rows PoolId → Contention
contention_in pools offers of feeds fed = record {
  pools = pools;
  offers = rows_in pools offers.items.items offers.starts.items;
  of = numbers_of number_of_app pools of;
  feeds = numbers_of number_of_pool pools feeds;
  fed = numbers_of number_of_pool pools fed;
}

-- each row lies within its items
pub record AreAllCut (pools : ℕ) (offers : Rows Offer) (of : Rows AppId) (feeds fed : Rows PoolId) : Type 0 where
  pub offers_cut : AreCut pools offers
  pub of_cut : AreCut pools of
  pub feeds_cut : AreCut pools feeds
  pub fed_cut : AreCut pools fed
