use Rattle.std.proofs.Common.{string_bytes}
use Rattle.std.specs.Str.{bytes_eq}
use Rattle.sl_codes.proofs.Lists.{distinct_map}
use Rattle.sl_codes.proofs.codes.count.Goals as goal

pub returns-clause-once : goal.returns-clause-once
returns-clause-once c = distinct_map (λ k. string_bytes k) bytes_eq c.args.set.now.keys c.len.ensures.unique
