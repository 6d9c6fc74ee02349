-- Kept raises and logged ones as one list.
use Rattle.std.specs.Prelude.{◌≡◌, ◌<◌, List, ◌++◌, All, length, map}
use Rattle.std.specs.List.Sorted.{IsPermutation, IsNonDecreasingBy}
use Rattle.sl_types.specs.declared.kinds.Raise.{Raise}
use Rattle.sl_types.specs.declared.kinds.Logged.{Logged}
use Rattle.sl_types.specs.Market.{Market}
use Rattle.sl_laws.specs.Raises.{without_void}

-- the raises of a log's entries
abbrev pub raises_of : List Logged → List Raise
raises_of log = map (λ e. record { pool = e.pool; limit = e.limit }) log

-- each entry is of a pool
abbrev pub AreOfPools : Market → List Logged → Type 0
AreOfPools market log = All (λ e. e.pool.0 < length market.pools) log

-- the entries of a log, in rising order of ticket; where the tickets differ there is one such list
pub record IsByTicket (log sorted : List Logged) : Type 0 where
  pub same : IsPermutation log sorted
  pub rising : IsNonDecreasingBy (λ e. e.ticket) sorted

-- the kept raises, and then those of the log in rising order of ticket, without the void ones
pub record IsMerged (market : Market) (kept : List Raise) (log : List Logged) (merged : List Raise) : Type 0 where
  pub sorted : List Logged
  pub in_order : IsByTicket log sorted
  pub merged_is : merged ≡ without_void market (kept ++ raises_of sorted)
