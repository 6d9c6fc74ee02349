use Rattle.std.proofs.Common.{◌≡◌, List, length}
use Rattle.sl_codes.specs.Records.{Record, records_of}
use Rattle.sl_codes.proofs.FirstFault.{IsReadTo}
use Rattle.sl_choices.specs.Choices.{choice_form}
use Rattle.sl_choices.specs.Marks.{HasMarks}
use Rattle.sl_choices.specs.Rows.{IsDraft, IsChoiceList}
use Rattle.sl_choices.proofs.choices.read_draft.Given as goal

abbrev pub invariant-rows : goal.invariant-rows
invariant-rows l =
    (read : List Record) × IsReadTo (choice_form l.progs) (records_of l.bytes) read l.records
    × IsDraft l.progs read l.draft.codes l.draft.table.chains.rows.items
    × IsChoiceList (record { codes = l.draft.codes; rows = l.draft.table.chains.rows.items })
    × (length l.draft.table.marks.items ≡ length l.draft.codes)
    × HasMarks l.draft.table

abbrev pub decreases-rows : goal.decreases-rows
decreases-rows l = length l.records
