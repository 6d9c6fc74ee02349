use Rattle.std.proofs.Common.{◌∙◌, rules}
use Rattle.csv.specs.Records.{fields_of}
use Rattle.sl_choices.proofs.Numbers.{row_by_own}
use Rattle.sl_choices.proofs.draft.Draft.take_fields.Goals as goal

pub returns-in_err-choice-clause-wrong : goal.returns-in_err-choice-clause-wrong
returns-in_err-choice-clause-wrong c =
    let self = c.args.self.now in
    let right = rw c.field.ensures at c.in_ok-app.ensures.right in
    let number = rw (c.in_ok-app.ensures.codes, c.field.ensures) at c.in_ok-app.ensures.number in
    let wrong = rw c.in_ok-app.ensures.rows at c.in_err-choice.ensures.wrong in
    rw (row_by_own c.args.progs.now self.codes self.table.chains.rows.items (fields_of c.args.row.now) c.in_ok-app.app.0 right number) (search rules)

pub returns-clause-right : goal.returns-clause-right
returns-clause-right c =
    let self = c.args.self.now in
    let right = rw c.field.ensures at c.in_ok-app.ensures.right in
    let number = rw (c.in_ok-app.ensures.codes, c.field.ensures) at c.in_ok-app.ensures.number in
    let own = rw c.in_ok-app.ensures.rows at c.in_ok-choice.ensures.right in
    row_by_own c.args.progs.now self.codes self.table.chains.rows.items (fields_of c.args.row.now) c.in_ok-app.app.0 right number ∙ own
