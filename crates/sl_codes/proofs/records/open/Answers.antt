use Rattle.csv.specs.Reading.{strip_bom}
use Rattle.sl_codes.proofs.Reading.{records_start}
use Rattle.sl_codes.proofs.records.open.Goals as goal

pub returns-clause-records : goal.returns-clause-records
returns-clause-records c = rw (c.from_reader.ensures.source, c.from_reader.ensures.state) (records_start (strip_bom c.args.bytes.now))
