use Rattle.std.proofs.Common.{refl, ◌∙◌, ap, sym, length, ◌++◌, ◌∷◌, [], arith, rules, length-append}
use Rattle.csv.specs.Records.{fields_of}
use Rattle.std.proofs.lemmas.List.Sums.{fold_push}
use Rattle.sl_codes.specs.Records.{records_of}
use Rattle.sl_codes.proofs.FirstFault.{header_first, read_to-header, read_to-right, read_to-wrong, read_to-end, neither}
use Rattle.sl_amend.specs.Applied.{applied, draft_after}
use Rattle.sl_amend.specs.DraftMarket.{DraftMarket, opening}
use Rattle.sl_amend.specs.Files.{amendment_form}
use Rattle.sl_amend.proofs.Framing.{amendment_cause, same_cause, has_room}
use Rattle.sl_amend.proofs.Reading.{memory_first}
use Rattle.sl_amend.proofs.amendments.drafted.Goals as goal

pub returns-in_err-read_header-clause-refused : goal.returns-in_err-read_header-clause-refused
returns-in_err-read_header-clause-refused c =
    let header = rw c.new-records.ensures at c.in_err-read_header.ensures.refused in
    let first = header_first (amendment_form c.args.named.now) (records_of c.args.bytes.now) c.in_err-read_header.field-0.0 header in
    search rules

pub rows-init : goal.rows-init
rows-init c =
    let form = amendment_form c.args.named.now in
    let header = rw c.new-records.ensures at c.in_ok-read_header.ensures.header in
    let rest = rw c.new-records.ensures at c.in_ok-read_header.ensures.rows in
    ([], rw rest (read_to-header form (records_of c.args.bytes.now) header), c.in_ok-draft.ensures.draft, refl, omega arith)

pub returns-in_err-next-clause-refused : goal.returns-in_err-next-clause-refused
returns-in_err-next-clause-refused c = memory_first _ _ c.from_residual-in_err-next.ensures.1

pub returns-in-Err-clause-refused : goal.returns-in-Err-clause-refused
returns-in-Err-clause-refused c =
    let inv = c.rows.invariant in
    let named = c.args.named.now in
    let row = fields_of c.next.new.row in
    let next = rw c.if-branch.true at c.in_ok-next.ensures.ok in
    let alike = amendment_cause named inv.0 row ∙ same_cause (length inv.0) c.rows.before (draft_after (opening named) inv.0) c.rows.draft row inv.3 (sym inv.2) in
    rw (c.after.ensures, ← inv.3)
    (read_to-wrong (amendment_form named) (records_of c.args.bytes.now) inv.0 c.rows.records row c.next.new.self c.in-Err.e inv.1 next (rw alike c.in-Err.ensures.wrong))

pub rows-preserved : goal.rows-preserved
rows-preserved c =
    let inv = c.rows.invariant in
    let named = c.args.named.now in
    let row = fields_of c.next.new.row in
    let next = rw c.if-branch.true at c.in_ok-next.ensures.ok in
    let ok = c.in_default.ensures in
    let alike = amendment_cause named inv.0 row ∙ same_cause (length inv.0) c.rows.before (draft_after (opening named) inv.0) c.rows.draft row inv.3 (sym inv.2) in
    let room = has_room c.rows.before row (neither _ _ ok.right).0 in
    let longer = length-append inv.0 (row ∷ []) in (
      inv.0 ++ row ∷ [],
      read_to-right (amendment_form named) (records_of c.args.bytes.now) inv.0 c.rows.records row c.next.new.self inv.1 next (alike ∙ ok.right),
      ok.draft ∙ ap (λ (d : DraftMarket). applied d row) inv.2 ∙ sym (fold_push applied (opening named) inv.0 row),
      omega (arith, longer, inv.3),
      omega (arith, room),
    )

pub returns-clause-right : goal.returns-clause-right
returns-clause-right c =
    let inv = c.rows.invariant in
    let next = rw c.if-branch.false at c.in_ok-next.ensures.ok in
    (read_to-end (amendment_form c.args.named.now) (records_of c.args.bytes.now) inv.0 c.rows.records inv.1 next).0

pub returns-clause-draft : goal.returns-clause-draft
returns-clause-draft c =
    let inv = c.rows.invariant in
    let next = rw c.if-branch.false at c.in_ok-next.ensures.ok in
    rw (read_to-end (amendment_form c.args.named.now) (records_of c.args.bytes.now) inv.0 c.rows.records inv.1 next).1 inv.2

pub returns-clause-few : goal.returns-clause-few
returns-clause-few c =
    let inv = c.rows.invariant in
    let next = rw c.if-branch.false at c.in_ok-next.ensures.ok in
    let rows = (read_to-end (amendment_form c.args.named.now) (records_of c.args.bytes.now) inv.0 c.rows.records inv.1 next).1 in
    omega (arith, ap length rows, inv.3, inv.4)
