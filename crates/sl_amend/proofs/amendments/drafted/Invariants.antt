use Rattle.std.proofs.Common.{◌≡◌, ◌≤◌, List, length}
use Rattle.sl_codes.specs.Records.{Record, records_of}
use Rattle.sl_codes.proofs.FirstFault.{IsReadTo}
use Rattle.sl_amend.specs.declared.rows.TheConstants.{MAX_AMENDMENTS}
use Rattle.sl_amend.specs.Applied.{draft_after}
use Rattle.sl_amend.specs.DraftMarket.{opening}
use Rattle.sl_amend.specs.Files.{amendment_form}
use Rattle.sl_amend.proofs.amendments.drafted.Given as goal

-- the draft is where the rows so far lead
abbrev pub invariant-rows : goal.invariant-rows
invariant-rows l =
    (read : List Record) × IsReadTo (amendment_form l.named) (records_of l.bytes) read l.records
    × (l.draft ≡ draft_after (opening l.named) read) × (length read ≡ l.before) × (l.before ≤ MAX_AMENDMENTS)

abbrev pub decreases-rows : goal.decreases-rows
decreases-rows l = length l.records
