use Rattle.csv.specs.Records.{fields_of}
use Rattle.sl_codes.proofs.FieldLemmas.{field_at-get_or}
use Rattle.sl_codes.proofs.records.field.Goals as goal

pub returns-in-Some : goal.returns-in-Some
returns-in-Some c = let e = field_at-get_or (fields_of c.args.row.now) c.args.i c.requires in cc (e, c.in-Some.ensures.value)

pub returns-in-None : goal.returns-in-None
returns-in-None c = let e = field_at-get_or (fields_of c.args.row.now) c.args.i c.requires in cc (e, c.in-None.ensures.value)
