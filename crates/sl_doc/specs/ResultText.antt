-- The text of a result document, record by record.
use Rattle.std.specs.Prelude.{ℕ, List, [], ◌∷◌, ◌++◌, length, map, get_or, slice_get, slice_index, codes, flat_map, Option, Some, None}
use Rattle.std.specs.Fmt.{decimal}
use Rattle.sl_types.specs.declared.kinds.Entry.{Entry}
use Rattle.sl_types.specs.declared.kinds.Raise.{Raise}
use Rattle.sl_types.specs.declared.kinds.Rule.{Rule}
use Rattle.sl_types.specs.declared.kinds.Rule.TheVariants.{H, L, Merit}
use Rattle.sl_types.specs.Market.{list_of, pool_numbers}
use Rattle.sl_types.specs.Valid.{applicant_numbers}
use Rattle.sl_codes.specs.Records.{Record}
use Rattle.sl_codes.specs.RecordText.{text_of_record}
use Rattle.sl_instance.specs.NamedMarket.{NamedMarket}
use Rattle.sl_doc.specs.Document.{Document}

-- a record of a result has four fields
abbrev pub four : List ℕ → List ℕ → List ℕ → List ℕ → Record
four first second third fourth = first ∷ second ∷ third ∷ fourth ∷ []

-- the version of the format
abbrev pub version_record : Record
version_record = four (codes "result") (codes "1") [] []

-- how a rule is written; a merit pool's rule is no rule of a document
abbrev pub rule_letter : Rule → List ℕ
rule_letter H = codes "H"
rule_letter L = codes "L"
rule_letter Merit = []

abbrev pub rule_record : Rule → Record
rule_record rule = four (codes "rule") (rule_letter rule) [] []

-- of a pool: its published limit, and how many it admits
abbrev pub limit_record : NamedMarket → Document → ℕ → Record
limit_record n doc P =
    four (codes "limit") (get_or n.pool_codes P [])
    (decimal (slice_index doc.limits P)) (decimal (slice_index doc.counts P))

-- of an applicant with this code: the place and the programme of the admitted choice, or place 0 and no programme
abbrev pub choice_record : NamedMarket → List ℕ → Option Entry → Record
choice_record n code None = four (codes "admit") code (codes "0") []
choice_record n code (Some e) = four (codes "admit") code (decimal e.place) (get_or n.prog_codes e.prog.0 [])

-- of an applicant, by the place in their list of the admitted choice
abbrev pub admit_record : NamedMarket → Document → ℕ → Record
admit_record n doc a =
    choice_record n (get_or n.app_codes a []) (slice_get (list_of n.market a) (slice_index doc.admitted a))

-- of a raise: its pool and its limit
abbrev pub raise_record : NamedMarket → Raise → Record
raise_record n r = four (codes "raise") (get_or n.pool_codes r.pool.0 []) (decimal r.limit) []

-- the last: how many records stand before it
abbrev pub end_record : ℕ → Record
end_record count = four (codes "end") (decimal count) [] []

-- a record for each pool and for each applicant, in order, and one for each raise
abbrev pub limit_records : NamedMarket → Document → List Record
limit_records n doc = map (limit_record n doc) (pool_numbers n.market)

abbrev pub admit_records : NamedMarket → Document → List Record
admit_records n doc = map (admit_record n doc) (applicant_numbers n.market)

abbrev pub raise_records : NamedMarket → Document → List Record
raise_records n doc = map (raise_record n) doc.raises

-- the records that say what a document is, and those that say what it holds
abbrev pub head_records : Rule → List Record
head_records rule = version_record ∷ rule_record rule ∷ []

abbrev pub content_records : NamedMarket → Document → List Record
content_records n doc = limit_records n doc ++ (admit_records n doc ++ raise_records n doc)

-- all records but the last
abbrev pub body_records : NamedMarket → Rule → Document → List Record
body_records n rule doc = head_records rule ++ content_records n doc

abbrev pub result_records : NamedMarket → Rule → Document → List Record
result_records n rule doc = body_records n rule doc ++ end_record (length (body_records n rule doc)) ∷ []

-- the text of a document over an instance with its codes
abbrev pub result_text : NamedMarket → Rule → Document → List ℕ
result_text n rule doc = flat_map text_of_record (result_records n rule doc)
