-- A document that was written is read back.
use Rattle.std.specs.Prelude.{◌≡◌, ◌≤◌, ◌^◌, ℕ, List, length, None}
use Rattle.sl_types.specs.declared.kinds.Rule.{Rule}
use Rattle.sl_types.specs.Valid.{IsValid}
use Rattle.sl_codes.specs.Records.{records_of, rows_of}
use Rattle.sl_instance.specs.NamedMarket.{NamedMarket, IsNamed}
use Rattle.sl_doc.specs.Document.{Document, IsInRange}
use Rattle.sl_doc.specs.Reading.{doc_fault, document_of}
use Rattle.sl_doc.specs.ResultText.{result_text}

-- a text is right, and holds this document
pub record Holds (n : NamedMarket) (rule : Rule) (text : List ℕ) (doc : Document) : Type 0 where
  pub right : doc_fault n rule (records_of text) ≡ None
  pub holds : document_of n (rows_of text) ≡ doc

-- the text of a document in range, where it is no longer than a file may be, holds this document
abbrev pub ReadsBack : Type 0
ReadsBack = (n : NamedMarket) (rule : Rule) (doc : Document) → IsNamed n → IsValid n.market → IsInRange n doc
    → length (result_text n rule doc) ≤ 2 ^ 28 → Holds n rule (result_text n rule doc) doc
