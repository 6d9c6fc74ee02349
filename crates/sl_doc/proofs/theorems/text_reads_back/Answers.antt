use Rattle.std.proofs.Common.{◌∙◌, ap}
use Rattle.sl_doc.specs.Reading.{document_of}
use Rattle.sl_doc.proofs.Again.{document_again}
use Rattle.sl_doc.proofs.ReadBack.{records_again}
use Rattle.sl_doc.proofs.Right.{right_again}
use Rattle.sl_doc.proofs.Sections.{rows_grouped}
use Rattle.sl_doc.proofs.theorems.text_reads_back.Goals as goal

pub returns : goal.returns
returns c = λ n rule doc named valid fit few.
    let again = records_again n named rule doc in
    record {
      right = rw again (right_again n named valid doc fit rule c.first_fault_says.ensures few);
      holds = rw again (ap (document_of n) (rows_grouped n rule doc) ∙ document_again n named valid doc fit rule);
    }
