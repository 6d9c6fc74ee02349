use Rattle.std.proofs.Common.{◌≡◌, ◌≤◌, List, length, map}
use Rattle.sl_types.specs.declared.kinds.TheConstants.{MAX_PROGRAMMES}
use Rattle.sl_codes.specs.Records.{Record, records_of, codes_of}
use Rattle.sl_codes.proofs.FirstFault.{IsReadTo}
use Rattle.sl_pools.specs.Programmes.{programme_form, pool_named}
use Rattle.sl_pools.proofs.programmes.read_programmes.Given as goal

abbrev pub invariant-rows : goal.invariant-rows
invariant-rows l =
    (read : List Record) × IsReadTo (programme_form l.pools.codes) (records_of l.bytes) read l.records
    × (l.codes ≡ codes_of read) × (l.progs.items ≡ map (pool_named l.pools.codes) read) × (length read ≤ MAX_PROGRAMMES)

abbrev pub decreases-rows : goal.decreases-rows
decreases-rows l = length l.records
