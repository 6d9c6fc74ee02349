use Rattle.std.proofs.Common.{◌≡◌, true}
use Rattle.std.specs.List.{list_all}
use Rattle.sl_codes.specs.Fields.{is_code}
use Rattle.sl_doc.proofs.tests.codes_of.Given as goal

abbrev pub invariant-loop-text : goal.invariant-loop-text
invariant-loop-text l = list_all is_code l.codes ≡ true
