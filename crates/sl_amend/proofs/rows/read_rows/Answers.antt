use Rattle.std.proofs.Common.{◌≡◌, ◌∙◌, length, arith}
use Rattle.csv.specs.Records.{fields_of}
use Rattle.std.proofs.lemmas.List.{length-map}
use Rattle.sl_codes.specs.Records.{records_of}
use Rattle.sl_codes.proofs.FirstFault.{read_to-right, read_to-wrong, read_to-end}
use Rattle.sl_amend.specs.Files.{rows_form, rows_in}
use Rattle.sl_amend.proofs.Framing.{rows_cause, frame_at, has_room}
use Rattle.sl_amend.proofs.Reading.{more_rows}
use Rattle.sl_amend.proofs.rows.read_rows.Goals as goal

pub returns-in-Err-clause-refused : goal.returns-in-Err-clause-refused
returns-in-Err-clause-refused c =
    let inv = c.rows.invariant in
    let rows = c.rows.rows.items in
    let row = fields_of c.next.new.row in
    let next = rw c.if-branch.true at c.in_ok-next.ensures.ok in
    let mapped = length-map rows (λ row. row.fields) in
    let count : c.len-before.result ≡ length (rows_in rows) = omega (arith, mapped) in
    let alike = rows_cause (rows_in rows) row ∙ frame_at (rows_in rows) (length rows) row (length-map rows (λ row. row.fields)) in
    rw (c.after.ensures, count)
    (read_to-wrong rows_form (records_of c.args.bytes.now) (rows_in rows) c.rows.records row c.next.new.self c.in-Err.e inv.0 next (rw alike c.in-Err.ensures.wrong))

pub rows-preserved : goal.rows-preserved
rows-preserved c =
    let inv = c.rows.invariant in
    let rows = c.rows.rows.items in
    let row = fields_of c.next.new.row in
    let next = rw c.if-branch.true at c.in_ok-next.ensures.ok in
    let ok = c.in_default.ensures in
    let alike = rows_cause (rows_in rows) row ∙ frame_at (rows_in rows) (length rows) row (length-map rows (λ row. row.fields)) in (
      rw ok.rows (read_to-right rows_form (records_of c.args.bytes.now) (rows_in rows) c.rows.records row c.next.new.self inv.0 next (alike ∙ ok.right)),
      more_rows rows c.take_row.new.rows.items row ok.rows (has_room (length rows) row ok.right),
    )

pub returns-clause-right : goal.returns-clause-right
returns-clause-right c =
    let inv = c.rows.invariant in
    let next = rw c.if-branch.false at c.in_ok-next.ensures.ok in
    (read_to-end rows_form (records_of c.args.bytes.now) (rows_in c.rows.rows.items) c.rows.records inv.0 next).0
