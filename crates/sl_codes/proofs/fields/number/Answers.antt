use Rattle.std.proofs.Common.{sym}
use Rattle.sl_codes.proofs.FieldLemmas.{no_number}
use Rattle.sl_codes.proofs.fields.number.Goals as goal

pub returns-in-Err : goal.returns-in-Err
returns-in-Err c = sym (no_number c.args.field.now c.in-Err.ensures.cases.0)
