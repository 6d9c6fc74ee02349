use Rattle.std.proofs.Common.{rules, ◌-◌, length}
use Rattle.sl_io.proofs.mem_sink.MemSinkSink.put.Goals as goal

pub returns-clause-part : goal.returns-clause-part
returns-clause-part c = (c.self.inside.room - length c.self.inside.bytes.items, search rules)
