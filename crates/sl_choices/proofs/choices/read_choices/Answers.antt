use Rattle.sl_codes.specs.Records.{rows_of}
use Rattle.sl_choices.proofs.Kept.{rows_within}
use Rattle.sl_choices.proofs.choices.read_choices.Goals as goal

pub returns-clause-within : goal.returns-clause-within
returns-clause-within c =
    let made = c.in_ok-codes.field-0 in
    let draft = rw c.codes.ensures at c.in_ok-codes.ensures.draft in
    rw draft.rows_are (rows_within c.args.progs.now.codes made.codes (rows_of c.args.bytes.now) draft.known draft.named)
