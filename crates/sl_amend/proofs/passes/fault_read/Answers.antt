use Rattle.std.proofs.Common.{refl, ◌≡◌, ◌∙◌, ◌++◌, ◌∷◌, [], ℕ, List, Some, true, false, position, ap, sym, arith, append_assoc, length-append}
use Rattle.csv.specs.Records.{fields_of}
use Rattle.sl_codes.specs.Records.{Record, rows_of}
use Rattle.sl_amend.specs.Files.{names_differing, names_tied}
use Rattle.sl_amend.specs.Parts.{record_of}
use Rattle.sl_amend.proofs.Passing.{differing_alike, tied_alike, position_more, first_after_none}
use Rattle.sl_amend.proofs.passes.fault_read.Goals as goal

pub returns-then-conflict : goal.returns-then-conflict
returns-then-conflict c =
    let inv = c.rows.invariant in
    let draft = c.args.draft.now in
    let row = fields_of c.next-in-rows.new.row in
    let rest = c.next-in-rows.new.self in
    let next = rw c.if-branch.true at c.in_ok-next-2.ensures.ok in
    let lent = c.lent.ensures in
    let same = differing_alike draft (record_of c.lent.result) row lent.kind lent.subject lent.programme in
    let here : names_differing draft row ≡ true = sym same ∙ sym c.conflict_named-conflict.ensures.differs ∙ c.if-conflict.true in
    let rows = inv.1 ∙ ap (λ (left : List Record). inv.0 ++ left) next in
    let at = first_after_none (names_differing draft) inv.0 row rest inv.3 here in
    let first : position (names_differing draft) (rows_of c.args.bytes.now) ≡ Some c.rows.at =
    ap (λ (all : List Record). position (names_differing draft) all) rows ∙ at ∙ ap (λ (n : ℕ). Some n) inv.2 in
    rw first (ap (λ fault. Some fault) c.pass_fault.ensures)

pub rows-preserved : goal.rows-preserved
rows-preserved c =
    let inv = c.rows.invariant in
    let draft = c.args.draft.now in
    let row = fields_of c.next-in-rows.new.row in
    let rest = c.next-in-rows.new.self in
    let next = rw c.if-branch.true at c.in_ok-next-2.ensures.ok in
    let lent = c.lent.ensures in
    let kept : names_differing draft row ≡ false =
    sym (differing_alike draft (record_of c.lent.result) row lent.kind lent.subject lent.programme) ∙ sym c.conflict_named-conflict.ensures.differs ∙ c.if-conflict.false in
    let ties : names_tied draft row ≡ c.conflict_named-conflict.result.ties =
    sym (tied_alike draft (record_of c.lent.result) row lent.kind lent.subject lent.programme) ∙ sym c.conflict_named-conflict.ensures.ties in
    let longer = length-append inv.0 (row ∷ []) in (
      inv.0 ++ row ∷ [],
      inv.1 ∙ ap (λ (left : List Record). inv.0 ++ left) next ∙ sym (append_assoc inv.0 (row ∷ []) rest),
      omega (arith, longer, inv.2),
      position_more (names_differing draft) inv.0 row ∙ rw (inv.3, kept) refl,
      c.first_tie-tied.ensures ∙ rw (inv.4, ← ties, ← inv.2) (sym (position_more (names_tied draft) inv.0 row)),
    )
