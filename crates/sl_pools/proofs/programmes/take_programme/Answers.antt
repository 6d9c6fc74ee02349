use Rattle.std.proofs.Common.{◌∙◌, sym, true, false, arith}
use Rattle.csv.specs.Records.{fields_of}
use Rattle.sl_pools.proofs.Rows.{programme_cause}
use Rattle.sl_pools.proofs.programmes.take_programme.Goals as goal

pub returns-in_default-clause-wrong : goal.returns-in_default-clause-wrong
returns-in_default-clause-wrong c = λ before same.
    programme_cause c.args.pools.now c.args.codes.now before (fields_of c.args.row.now) false same (sym c.len.ensures ∙ c.if-len-ne2.false) (omega arith)
    (rw c.field.ensures at c.in_ok-add_code.ensures.right) (rw c.field-2.ensures at c.in_default.ensures.found)

pub returns-clause-right : goal.returns-clause-right
returns-clause-right c = λ before same.
    programme_cause c.args.pools.now c.args.codes.now before (fields_of c.args.row.now) true same (sym c.len.ensures ∙ c.if-len-ne2.false) (omega arith)
    (rw c.field.ensures at c.in_ok-add_code.ensures.right) (rw c.field-2.ensures at c.in-Some.ensures.found)
