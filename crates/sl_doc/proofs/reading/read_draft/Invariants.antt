use Rattle.std.proofs.Common.{List, length}
use Rattle.sl_codes.specs.Records.{Record, records_of}
use Rattle.sl_codes.proofs.FirstFault.{IsReadTo}
use Rattle.sl_doc.specs.Drafts.{IsDraft}
use Rattle.sl_doc.specs.Reading.{result_form}
use Rattle.sl_doc.proofs.reading.read_draft.Given as goal

abbrev pub invariant-rows : goal.invariant-rows
invariant-rows l =
    (read : List Record) × IsReadTo (result_form l.named l.rule) (records_of l.bytes) read l.records
    × IsDraft l.named read l.draft.doc l.draft.rows l.draft.has_ended

abbrev pub decreases-rows : goal.decreases-rows
decreases-rows l = length l.records
