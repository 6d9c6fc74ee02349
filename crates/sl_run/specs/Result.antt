-- The result of a clearing.
use Rattle.std.specs.Prelude.{◌≡◌, length, slice_index}
use Rattle.sl_types.specs.Market.{Market}
use Rattle.sl_laws.specs.Outcome.{admitted_indexes, counts_in}
use Rattle.sl_laws.specs.Stable.{IsLeastStable}
use Rattle.sl_laws.specs.Raises.{Proves}
use Rattle.sl_doc.specs.Document.{Document}

-- the least stable limits, which the raises prove, with the admissions and the counts that they make
pub record IsResultOf (market : Market) (doc : Document) : Type 0 where
  pub each : length doc.limits ≡ length market.pools
  pub least : IsLeastStable market (slice_index doc.limits)
  pub proved : Proves market doc.raises (slice_index doc.limits)
  pub admitted : doc.admitted ≡ admitted_indexes market (slice_index doc.limits)
  pub counts : doc.counts ≡ counts_in market (slice_index doc.limits)
