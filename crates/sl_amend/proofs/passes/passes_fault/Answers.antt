use Rattle.std.proofs.Common.{◌≡◌, ◌∙◌, length, get_or, List, [], position, None, false, sym, ap, arith, refl}
use Rattle.sl_types.proofs.Lists.{none_first}
use Rattle.sl_codes.specs.Records.{Record, rows_of}
use Rattle.sl_amend.specs.Files.{names_differing, names_tied}
use Rattle.sl_amend.proofs.OneChange.{any_never}
use Rattle.sl_amend.proofs.passes.passes_fault.Goals as goal

pub returns-then-has_no_conflict : goal.returns-then-has_no_conflict
returns-then-has_no_conflict c =
    let draft = c.args.draft.now in
    let rows = rows_of c.args.bytes.now in
    let free = c.has_no_conflict.ensures c.if-has_no_conflict.true in
    let none : Record = [] in
    let differ : position (names_differing draft) rows ≡ None =
    none_first (names_differing draft) rows (any_never (names_differing draft) rows none (λ i lt. (free (get_or rows i none)).0)) in
    let tie : position (names_tied draft) rows ≡ None =
    none_first (names_tied draft) rows (any_never (names_tied draft) rows none (λ i lt. (free (get_or rows i none)).1)) in
    rw (differ, tie) refl
