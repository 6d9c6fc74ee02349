use Rattle.sl_codes.proofs.Reading.{gives_next, is_ready_Ready}
use Rattle.csv.specs.Records.{fields_of}
use Rattle.sl_codes.proofs.records.read.Goals as goal

pub returns-in-Ok-clause-next : goal.returns-in-Ok-clause-next
returns-in-Ok-clause-next c =
    let a = c.args.reader.now in
    gives_next a c.read_byte_record.new.self c.in-Ok.found (fields_of c.read_byte_record.new.row) c.requires
    (c.in-Ok.ensures.reads c.requires.plain (is_ready_Ready a c.requires.ready))
