use Rattle.std.proofs.Common.{Some, None, rules}
use Rattle.csv.specs.Records.{fields_of}
use Rattle.sl_choices.specs.Rows.{rows_of_app}
use Rattle.sl_choices.proofs.Fields.{own_prog, own_score}
use Rattle.sl_choices.proofs.rows.choice.Goals as goal

pub returns-in_err-prog-clause-wrong : goal.returns-in_err-prog-clause-wrong
returns-in_err-prog-clause-wrong c =
    let rows = rows_of_app c.args.app.0 c.args.table.now.chains.rows.items in
    let short = rw c.count.ensures at c.if-count-ge-MAX_LIST.false in
    let place = rw c.field.ensures at c.in_ok-place.ensures.right in
    let prog = rw c.field-2.ensures at c.in_err-prog.ensures.wrong in
    let whole = own_prog c.args.progs.now rows (fields_of c.args.row.now) c.in_err-prog.field-0.0 short place prog in
    search (rules, whole)

pub returns-in_err-score-clause-wrong : goal.returns-in_err-score-clause-wrong
returns-in_err-score-clause-wrong c =
    let rows = rows_of_app c.args.app.0 c.args.table.now.chains.rows.items in
    let short = rw c.count.ensures at c.if-count-ge-MAX_LIST.false in
    let place = rw c.field.ensures at c.in_ok-place.ensures.right in
    let prog = rw c.field-2.ensures at c.in_ok-prog.ensures.right in
    let score = rw c.field-3.ensures at c.in_err-score.ensures.cause in
    let whole = own_score c.args.progs.now rows (fields_of c.args.row.now) (Some c.in_err-score.field-0.0) short place prog score in
    rw whole (search rules)

pub returns-clause-right : goal.returns-clause-right
returns-clause-right c =
    let rows = rows_of_app c.args.app.0 c.args.table.now.chains.rows.items in
    let short = rw c.count.ensures at c.if-count-ge-MAX_LIST.false in
    let place = rw c.field.ensures at c.in_ok-place.ensures.right in
    let prog = rw c.field-2.ensures at c.in_ok-prog.ensures.right in
    let score = rw c.field-3.ensures at c.in_ok-score.ensures.cause in
    own_score c.args.progs.now rows (fields_of c.args.row.now) None short place prog score
