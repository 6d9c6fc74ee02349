use Rattle.std.proofs.Common.{◌≤◌, length}
use Rattle.sl_codes.specs.Records.{records_of}
use Rattle.sl_codes.proofs.FirstFault.{IsReadTo}
use Rattle.sl_amend.specs.declared.rows.TheConstants.{MAX_AMENDMENTS}
use Rattle.sl_amend.specs.Files.{rows_form, rows_in}
use Rattle.sl_amend.proofs.rows.read_rows.Given as goal

-- the rows so far are the records that were read
abbrev pub invariant-rows : goal.invariant-rows
invariant-rows l = IsReadTo rows_form (records_of l.bytes) (rows_in l.rows.items) l.records × (length l.rows.items ≤ MAX_AMENDMENTS)

abbrev pub decreases-rows : goal.decreases-rows
decreases-rows l = length l.records
