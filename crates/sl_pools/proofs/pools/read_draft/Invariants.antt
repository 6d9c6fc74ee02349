use Rattle.std.proofs.Common.{◌≡◌, ◌≤◌, List, [], length, map}
use Rattle.csv.specs.Records.{fields_of, partial_of}
use Rattle.sl_types.specs.declared.kinds.TheConstants.{MAX_POOLS}
use Rattle.sl_codes.specs.Records.{Record, records_of, codes_of}
use Rattle.sl_codes.proofs.FirstFault.{IsReadTo}
use Rattle.sl_pools.specs.Pools.{pool_form, pool_unlinked, parents_of}
use Rattle.sl_pools.proofs.pools.read_draft.Given as goal

abbrev pub invariant-rows : goal.invariant-rows
invariant-rows l =
    (read : List Record) × IsReadTo pool_form (records_of l.bytes) read l.records
    × (l.draft.codes ≡ codes_of read) × (l.draft.pools.items ≡ map (pool_unlinked l.rule) read) × (fields_of l.draft.parents ≡ parents_of read)
    × (partial_of l.draft.parents ≡ []) × (length read ≤ MAX_POOLS)

abbrev pub decreases-rows : goal.decreases-rows
decreases-rows l = length l.records
