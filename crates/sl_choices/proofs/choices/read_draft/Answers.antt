use Rattle.std.proofs.Common.{◌≡◌, ◌∙◌, ap, refl, length, ◌++◌, ◌∷◌, [], arith, rules}
use Rattle.csv.specs.Records.{fields_of}
use Rattle.sl_codes.specs.Records.{records_of}
use Rattle.sl_codes.proofs.FirstFault.{header_first, read_to-header, read_to-right, read_to-wrong, read_to-end}
use Rattle.sl_choices.specs.Choices.{choice_form, choice_of}
use Rattle.sl_choices.proofs.Kept.{kept_none, kept_push}
use Rattle.sl_choices.proofs.Records.{causes_alike, prog_known, draft_none, draft_push}
use Rattle.sl_choices.proofs.choices.read_draft.Goals as goal
use Rattle.std.proofs.lemmas.List.{length-map}

pub returns-in_err-read_header-clause-refused : goal.returns-in_err-read_header-clause-refused
returns-in_err-read_header-clause-refused c =
    let header = rw c.new-records.ensures at c.in_err-read_header.ensures.refused in
    let first = header_first (choice_form c.args.progs.now) (records_of c.args.bytes.now) c.in_err-read_header.field-0.0 header in
    search rules

pub rows-init : goal.rows-init
rows-init c =
    let made = c.new-draft.ensures in
    let header = rw c.new-records.ensures at c.in_ok-read_header.ensures.header in
    let rest = rw c.new-records.ensures at c.in_ok-read_header.ensures.rows in (
      [],
      rw rest (read_to-header (choice_form c.args.progs.now) (records_of c.args.bytes.now) header),
      rw (made.codes, made.rows) (draft_none c.args.progs.now),
      rw (made.codes, made.rows) kept_none,
      rw (made.codes, made.marks) refl,
      made.marked,
    )

pub returns-in-Err-clause-refused : goal.returns-in-Err-clause-refused
returns-in-Err-clause-refused c =
    let inv = c.rows.invariant in
    let progs = c.args.progs.now in
    let row = fields_of c.next.new.row in
    let next = rw c.if-branch.true at c.in_ok-next.ensures.ok in
    let rows = ap length inv.2.rows_are ∙ length-map inv.0 (choice_of progs c.rows.draft.codes) in
    let taken : c.len-before.result ≡ length inv.0 = omega (arith, rows) in
    let alike = causes_alike progs inv.0 c.rows.draft.codes c.rows.draft.table.chains.rows.items row inv.2 in
    rw (c.after.ensures, taken)
    (read_to-wrong (choice_form progs) (records_of c.args.bytes.now) inv.0 c.rows.records row c.next.new.self c.in-Err.e inv.1 next (rw alike c.in-Err.ensures.wrong))

pub rows-preserved : goal.rows-preserved
rows-preserved c =
    let inv = c.rows.invariant in
    let progs = c.args.progs.now in
    let apps = c.rows.draft.codes in
    let rows = c.rows.draft.table.chains.rows.items in
    let row = fields_of c.next.new.row in
    let next = rw c.if-branch.true at c.in_ok-next.ensures.ok in
    let ok = c.in_default.ensures in
    let alike = causes_alike progs inv.0 apps rows row inv.2 in
    let few = rw ok.codes at ok.few in (
      inv.0 ++ row ∷ [],
      read_to-right (choice_form progs) (records_of c.args.bytes.now) inv.0 c.rows.records row c.next.new.self inv.1 next (alike ∙ ok.right),
      rw (ok.codes, ok.rows) (draft_push progs inv.0 apps rows row inv.2 (prog_known progs apps rows row ok.right)),
      rw (ok.codes, ok.rows) (kept_push progs apps rows row inv.3 ok.right few),
      ok.each,
      ok.marked,
    )

pub returns-clause-right : goal.returns-clause-right
returns-clause-right c =
    let inv = c.rows.invariant in
    let next = rw c.if-branch.false at c.in_ok-next.ensures.ok in
    (read_to-end (choice_form c.args.progs.now) (records_of c.args.bytes.now) inv.0 c.rows.records inv.1 next).0

pub returns-clause-draft : goal.returns-clause-draft
returns-clause-draft c =
    let inv = c.rows.invariant in
    let next = rw c.if-branch.false at c.in_ok-next.ensures.ok in
    rw (read_to-end (choice_form c.args.progs.now) (records_of c.args.bytes.now) inv.0 c.rows.records inv.1 next).1 inv.2
