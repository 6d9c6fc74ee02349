use Rattle.std.proofs.Common.{◌∙◌, ◌++◌, ◌∷◌, [], arith}
use Rattle.csv.specs.Records.{fields_of}
use Rattle.sl_codes.specs.Records.{records_of}
use Rattle.sl_codes.proofs.FirstFault.{read_to-header, read_to-right, read_to-wrong, read_to-end}
use Rattle.sl_doc.specs.Reading.{result_form}
use Rattle.sl_doc.proofs.Drafts.{causes_alike, draft_none, draft_more}
use Rattle.sl_doc.proofs.Fewer.{read_few}
use Rattle.sl_doc.proofs.reading.read_draft.Goals as goal

pub rows-init : goal.rows-init
rows-init c =
    let form = result_form c.args.named.now c.args.rule in
    let made = c.new-draft.ensures in
    let header = rw c.new-records.ensures at c.in_ok-read_header.ensures.header in
    let rest = rw c.new-records.ensures at c.in_ok-read_header.ensures.rows in (
      [],
      rw rest (read_to-header form (records_of c.args.bytes.now) header),
      rw (made.doc, made.rows, made.open) (draft_none c.args.named.now),
    )

pub take-requires : goal.take-requires
take-requires c =
    let inv = c.rows.invariant in
    let few = read_few c.args.bytes.now (result_form c.args.named.now c.args.rule) inv.0 c.rows.records c.requires inv.1 in
    record { room = omega (arith, few, inv.2.counted) }

pub after-requires : goal.after-requires
after-requires c =
    let inv = c.rows.invariant in
    let few = read_few c.args.bytes.now (result_form c.args.named.now c.args.rule) inv.0 c.rows.records c.requires inv.1 in
    omega (arith, few, inv.2.counted)

pub returns-in-Err-clause-refused : goal.returns-in-Err-clause-refused
returns-in-Err-clause-refused c =
    let inv = c.rows.invariant in
    let n = c.args.named.now in
    let rule = c.args.rule in
    let form = result_form n rule in
    let row = fields_of c.next.new.row in
    let next = rw c.if-branch.true at c.in_ok-next.ensures.ok in
    let few = read_few c.args.bytes.now form inv.0 c.rows.records c.requires inv.1 in
    let alike = causes_alike n rule inv.0 c.rows.draft.doc c.rows.draft.rows c.rows.draft.has_ended row inv.2 (omega (arith, few)) in
    rw (c.after.ensures, inv.2.counted)
    (read_to-wrong form (records_of c.args.bytes.now) inv.0 c.rows.records row c.next.new.self c.in-Err.e inv.1 next (rw alike c.in-Err.ensures.wrong))

pub rows-preserved : goal.rows-preserved
rows-preserved c =
    let inv = c.rows.invariant in
    let n = c.args.named.now in
    let rule = c.args.rule in
    let form = result_form n rule in
    let draft = c.rows.draft in
    let row = fields_of c.next.new.row in
    let next = rw c.if-branch.true at c.in_ok-next.ensures.ok in
    let few = read_few c.args.bytes.now form inv.0 c.rows.records c.requires inv.1 in
    let alike = causes_alike n rule inv.0 draft.doc draft.rows draft.has_ended row inv.2 (omega (arith, few)) in
    let ok = c.in_default.ensures in (
      inv.0 ++ row ∷ [],
      read_to-right form (records_of c.args.bytes.now) inv.0 c.rows.records row c.next.new.self inv.1 next (alike ∙ ok.right),
      rw (ok.doc, ok.rows, ok.ended) (draft_more n rule inv.0 draft.doc draft.rows draft.has_ended row c.pool_codes-pools.ensures.each inv.2 ok.right),
    )

pub returns-clause-right : goal.returns-clause-right
returns-clause-right c =
    let inv = c.rows.invariant in
    let next = rw c.if-branch.false at c.in_ok-next.ensures.ok in
    (read_to-end (result_form c.args.named.now c.args.rule) (records_of c.args.bytes.now) inv.0 c.rows.records inv.1 next).0

pub returns-clause-draft : goal.returns-clause-draft
returns-clause-draft c =
    let inv = c.rows.invariant in
    let next = rw c.if-branch.false at c.in_ok-next.ensures.ok in
    rw (read_to-end (result_form c.args.named.now c.args.rule) (records_of c.args.bytes.now) inv.0 c.rows.records inv.1 next).1 inv.2

pub returns-clause-few : goal.returns-clause-few
returns-clause-few c =
    let inv = c.rows.invariant in
    let few = read_few c.args.bytes.now (result_form c.args.named.now c.args.rule) inv.0 c.rows.records c.requires inv.1 in
    omega (arith, few, inv.2.counted)
