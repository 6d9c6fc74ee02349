use Rattle.std.proofs.Common.{◌≡◌, ℕ, List, arith, subst}
use Rattle.sl_codes.specs.Records.{rows_of}
use Rattle.sl_doc.specs.Reading.{document_of}
use Rattle.sl_run.proofs.Ranges.{few_raises}
use Rattle.sl_run.proofs.documents.fetch_result.Goals as goal

pub returns-in-Ok-clause-few : goal.returns-in-Ok-clause-few
returns-in-Ok-clause-few g c =
    let short = c.in_ok-bytes.ensures.short in
    let same = c.deref.ensures.value in
    let is = subst (λ (bytes : List ℕ). c.in-Ok.doc ≡ document_of c.args.named.now (rows_of bytes)) same c.in-Ok.ensures.doc in
    few_raises c.args.named.now c.in_ok-bytes.bytes.items c.in-Ok.doc (omega (arith, short)) is
