use Rattle.std.proofs.Common.{◌≡◌, true}
use Rattle.std.specs.List.{list_all}
use Rattle.sl_codes.specs.Fields.{is_code}
use Rattle.sl_doc.proofs.tests.printing.numbered_codes.Given as goal

abbrev pub invariant-loop-number : goal.invariant-loop-number
invariant-loop-number l = list_all is_code l.codes ≡ true
