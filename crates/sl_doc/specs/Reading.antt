-- Result documents that are read: what is wrong with them, and what they hold.
use Rattle.std.specs.Prelude.{◌+◌, ◌-◌, ◌^◌, ◌==◌, ◌&&◌, not, Bool, ℕ, List, [], length, map, filter, take, drop, zip, get_or, codes, nat_eq, nat_lt, is_none, if◌then◌else◌, unwrap_or, Option, Some, None}
use Rattle.std.specs.Option.{option_or}
use Rattle.std.specs.List.{list_any, position_or_len}
use Rattle.std.specs.Str.{bytes_eq}
use Rattle.sl_types.specs.declared.kinds.Entry.{Entry}
use Rattle.sl_types.specs.declared.kinds.Raise.{Raise}
use Rattle.sl_types.specs.declared.kinds.Rule.{Rule}
use Rattle.sl_types.specs.declared.kinds.TheConstants.{MAX_APPLICANTS, MAX_PLACE, MAX_SCORE}
use Rattle.sl_types.specs.Market.{list_of}
use Rattle.sl_codes.specs.declared.faults.Cause.{Cause}
use Rattle.sl_codes.specs.declared.faults.Cause.TheVariants.{BadNumber, UnknownPool, NotEmpty, UnknownChoice, RuleDiffers, OutOfOrder, BadEnd, AfterEnd, NoEnd}
use Rattle.sl_codes.specs.declared.faults.Table.TheVariants.{Results}
use Rattle.sl_codes.specs.declared.faults.TableFault.{TableFault}
use Rattle.sl_codes.specs.Codes.{number_of}
use Rattle.sl_codes.specs.Fields.{number_of_field, number_in}
use Rattle.sl_codes.specs.Faults.{Form, cause_if, name_cause, number_cause, pass_fault, first_fault}
use Rattle.sl_codes.specs.Records.{Record, field_of}
use Rattle.sl_instance.specs.NamedMarket.{NamedMarket}
use Rattle.sl_doc.specs.Document.{Document}
use Rattle.sl_doc.specs.ResultText.{version_record, rule_letter}

-- whether the first field of a record is this word
abbrev pub has_word : List ℕ → Record → Bool
has_word word row = bytes_eq (field_of row 0) word

abbrev pub is_end : Record → Bool
is_end row = has_word (codes "end") row

abbrev pub is_raise : Record → Bool
is_raise row = has_word (codes "raise") row

-- whether one of these records is the end
abbrev pub has_end : List Record → Bool
has_end rows = list_any is_end rows

abbrev pub is_empty : List ℕ → Bool
is_empty field = length field == 0

-- what is wrong with a field that must be empty
abbrev pub empty_cause : List ℕ → Option Cause
empty_cause field = cause_if (not (is_empty field)) NotEmpty

-- what is wrong with the first field of a record where this word must stand
abbrev pub word_cause : List ℕ → Record → Option Cause
word_cause word row = cause_if (not (has_word word row)) OutOfOrder

-- whether the first two fields of a record are this word and this code
abbrev pub has_naming : List ℕ → List ℕ → Record → Bool
has_naming word code row = has_word word row && bytes_eq (field_of row 1) code

-- what is wrong with the first two fields of a record where they must stand
abbrev pub naming_cause : List ℕ → List ℕ → Record → Option Cause
naming_cause word code row = cause_if (not (has_naming word code row)) OutOfOrder

-- `rule,R,,`
abbrev pub rule_cause : Rule → Record → Option Cause
rule_cause rule row =
    option_or (word_cause (codes "rule") row)
    (option_or (cause_if (not (bytes_eq (field_of row 1) (rule_letter rule))) RuleDiffers)
    (option_or (empty_cause (field_of row 2))
    (empty_cause (field_of row 3))))

-- `limit,POOL,LIMIT,ADMITTED` of the pool with this code
abbrev pub limit_cause : List ℕ → Record → Option Cause
limit_cause code row =
    option_or (naming_cause (codes "limit") code row)
    (option_or (number_cause 0 (MAX_SCORE + 1) (field_of row 2))
    (number_cause 0 MAX_APPLICANTS (field_of row 3)))

-- a choice at this place, of the programme with this number
abbrev pub is_choice : ℕ → ℕ → Entry → Bool
is_choice place prog e = nat_eq e.place place && nat_eq e.prog.0 prog

-- the index of the choice at a place, of a programme that may be known; the length of the list where there is none
abbrev pub choice_index : List Entry → ℕ → Option ℕ → ℕ
choice_index choices place None = length choices
choice_index choices place (Some prog) = position_or_len (is_choice place prog) choices

-- the index of the choice that a record of an applicant with these choices names
abbrev pub index_of : List (List ℕ) → List Entry → Record → ℕ
index_of progs choices row = choice_index choices (number_in (field_of row 2)) (number_of progs (field_of row 3))

-- the record names one choice, or none by place 0 and an empty programme
abbrev pub names_choice : List (List ℕ) → List Entry → Record → Bool
names_choice progs choices row = nat_lt (index_of progs choices row) (length choices)

abbrev pub names_none : Record → Bool
names_none row = number_in (field_of row 2) == 0 && is_empty (field_of row 3)

-- `admit,APPLICANT,PLACE,PROGRAMME` of the applicant with this code and these choices
abbrev pub admit_cause : List (List ℕ) → List ℕ → List Entry → Record → Option Cause
admit_cause progs code choices row =
    option_or (naming_cause (codes "admit") code row)
    (option_or (number_cause 0 MAX_PLACE (field_of row 2))
    (cause_if (not (names_choice progs choices row) && not (names_none row)) UnknownChoice))

-- `raise,POOL,LIMIT,`
abbrev pub raise_cause : List (List ℕ) → Record → Option Cause
raise_cause pools row =
    option_or (name_cause UnknownPool pools (field_of row 1))
    (option_or (number_cause 1 (MAX_SCORE + 1) (field_of row 2))
    (empty_cause (field_of row 3)))

-- what is wrong with a field that must be this number
abbrev pub count_cause : ℕ → List ℕ → Option Cause
count_cause count field =
    option_or (cause_if (is_none (number_of_field field)) BadNumber)
    (cause_if (not (number_in field == count)) BadEnd)

-- `end,COUNT,,` after so many records
abbrev pub end_cause : ℕ → Record → Option Cause
end_cause count row =
    option_or (count_cause count (field_of row 1))
    (option_or (empty_cause (field_of row 2))
    (empty_cause (field_of row 3)))

-- a raise or the end, after so many records
abbrev pub closing_cause : List (List ℕ) → ℕ → Record → Option Cause
closing_cause pools count row =
    if is_raise row then raise_cause pools row
    else if is_end row then end_cause count row
    else Some OutOfOrder

-- what is wrong with the record of a pool, and with that of an applicant
abbrev pub pool_cause : NamedMarket → ℕ → Record → Option Cause
pool_cause n P row = limit_cause (get_or n.pool_codes P []) row

abbrev pub applicant_cause : NamedMarket → ℕ → Record → Option Cause
applicant_cause n a row = admit_cause n.prog_codes (get_or n.app_codes a []) (list_of n.market a) row

-- what is wrong with a record by how many stand between the header and it: the rule's record comes first, then one for
-- each pool, then one for each applicant, and then raises and the end
abbrev pub standing_cause : NamedMarket → Rule → ℕ → Record → Option Cause
standing_cause n rule k row =
    if k == 0 then rule_cause rule row
    else if nat_lt (k - 1) (length n.market.pools) then pool_cause n (k - 1) row
    else if nat_lt (k - 1 - length n.market.pools) (length n.market.lists)
    then applicant_cause n (k - 1 - length n.market.pools) row
    else closing_cause n.pool_codes (k + 1) row

abbrev pub result_cause : NamedMarket → Rule → List Record → Record → Option Cause
result_cause n rule before row =
    option_or (cause_if (has_end before) AfterEnd) (standing_cause n rule (length before) row)

-- more records than a file can have
abbrev pub most_records : ℕ
most_records = 2 ^ 29

-- the form of a result; it limits no number of records, since a file has at most 2 ^ 28 bytes
abbrev pub result_form : NamedMarket → Rule → Form
result_form n rule = record {
  table = Results;
  header = version_record;
  most = most_records;
  fields_cause = result_cause n rule;
}

-- the fault of records after the header of which none is the end; it is at one more than the last
abbrev pub end_fault : List Record → Option TableFault
end_fault rows = pass_fault Results NoEnd (if has_end rows then None else Some (length rows))

-- the first fault of a document over an instance with its codes
abbrev pub doc_fault : NamedMarket → Rule → List Record → Option TableFault
doc_fault n rule records = option_or (first_fault (result_form n rule) records) (end_fault (drop 1 records))

-- of the records after the header, those of the pools, those of the applicants, and the raises
abbrev pub pool_rows : NamedMarket → List Record → List Record
pool_rows n rows = take (length n.market.pools) (drop 1 rows)

abbrev pub applicant_rows : NamedMarket → List Record → List Record
applicant_rows n rows = take (length n.market.lists) (drop (1 + length n.market.pools) rows)

abbrev pub raise_rows : NamedMarket → List Record → List Record
raise_rows n rows = filter is_raise (drop (1 + length n.market.pools + length n.market.lists) rows)

-- the raise of a record, over pools of these codes
abbrev pub raise_of : List (List ℕ) → Record → Raise
raise_of pools row = record {
  pool = record { 0 = unwrap_or (number_of pools (field_of row 1)) 0 };
  limit = number_in (field_of row 2);
}

-- the document that the records after the header hold
abbrev pub document_of : NamedMarket → List Record → Document
document_of n rows = record {
  limits = map (λ row. number_in (field_of row 2)) (pool_rows n rows);
  counts = map (λ row. number_in (field_of row 3)) (pool_rows n rows);
  admitted = map (λ p. index_of n.prog_codes p.0 p.1) (zip n.market.lists (applicant_rows n rows));
  raises = map (raise_of n.pool_codes) (raise_rows n rows);
}
