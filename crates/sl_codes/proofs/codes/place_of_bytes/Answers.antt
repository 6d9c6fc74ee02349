use Rattle.std.proofs.Common.{sym, map, string_bytes}
use Rattle.std.specs.Str.{bytes_eq}
use Rattle.sl_codes.proofs.Lists.{no_text, position_none}
use Rattle.sl_codes.proofs.codes.place_of_bytes.Goals as goal

pub returns-in-Err-clause-index : goal.returns-in-Err-clause-index
returns-in-Err-clause-index c =
    let code = c.args.code.now in
    sym (position_none (bytes_eq code) (map (λ k. string_bytes k) c.args.set.now.keys) (no_text code c.args.set.now.keys c.in-Err.ensures.cases.0))

pub returns-in-Err-clause-found : goal.returns-in-Err-clause-found
returns-in-Err-clause-found c = sym (no_text c.args.code.now c.args.set.now.keys c.in-Err.ensures.cases.0)
