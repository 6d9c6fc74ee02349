-- The first fault of a table: what is wrong with a field and with a record, and the first record with something wrong.
use Rattle.std.specs.Prelude.{◌≡◌, ⊤, ℕ, ◌+◌, ◌==◌, Bool, false, not, List, [], ◌∷◌, ◌++◌, length, drop, nat_le, is_none, Option, Some, None, if◌then◌else◌, option_map, Result, MatchResult}
use Rattle.std.specs.Option.{option_or}
use Rattle.std.specs.Str.{is_utf8}
use Rattle.sl_codes.specs.declared.faults.Table.{Table}
use Rattle.sl_codes.specs.declared.faults.Cause.{Cause}
use Rattle.sl_codes.specs.declared.faults.Cause.TheVariants.{NotText, BadHeader, FieldCount, BadCode, BadNumber, TooMany}
use Rattle.sl_codes.specs.declared.faults.TableFault.{TableFault}
use Rattle.sl_codes.specs.declared.faults.ReadError.{ReadError}
use Rattle.sl_codes.specs.declared.faults.RowError.{RowError}
use Rattle.sl_codes.specs.Codes.{has_code}
use Rattle.sl_codes.specs.Fields.{is_code, number_within}
use Rattle.sl_codes.specs.Records.{Record, has_fields}

-- a cause, where something is broken
abbrev pub cause_if : Bool → Cause → Option Cause
cause_if broken cause = if broken then Some cause else None

-- what is wrong with a field that must be a code
abbrev pub code_cause : List ℕ → Option Cause
code_cause field = option_or (cause_if (not (is_utf8 field)) NotText) (cause_if (not (is_code field)) BadCode)

-- what is wrong with a field that must be a code that doesn't stand among these
abbrev pub new_code_cause : Cause → List (List ℕ) → List ℕ → Option Cause
new_code_cause repeated codes field = option_or (code_cause field) (cause_if (has_code codes field) repeated)

-- what is wrong with a field that must be a number from low to high
abbrev pub number_cause : ℕ → ℕ → List ℕ → Option Cause
number_cause low high field = cause_if (is_none (number_within low high field)) BadNumber

-- what is wrong with a field that must name one of these codes
abbrev pub name_cause : Cause → List (List ℕ) → List ℕ → Option Cause
name_cause unknown codes field = cause_if (not (has_code codes field)) unknown

-- the form of a table: its header, how many records may follow, and what is wrong with the fields of a record that
-- stands after these
pub record Form : Type 0 where
  pub table : Table
  pub header : List (List ℕ)
  pub most : ℕ
  pub fields_cause : List Record → Record → Option Cause

-- what is wrong with a record that stands after these: the number of its fields, that it is one too many, or a field
abbrev pub record_cause : Form → List Record → Record → Option Cause
record_cause form before row =
    option_or (cause_if (not (length row == length form.header)) FieldCount)
    (option_or (cause_if (nat_le form.most (length before)) TooMany)
    (form.fields_cause before row))

-- a fault at a record that has so many before it, the header not counted
abbrev pub fault_at : Table → ℕ → Cause → TableFault
fault_at table rows cause = record { table = table; at = rows + 2; cause = cause }

-- the first fault of records that stand after these
unfoldable pub first_fault_after : Form → List Record → List Record → Option TableFault
first_fault_after form before [] = None
first_fault_after form before (row ∷ rest) =
    option_or (option_map (fault_at form.table (length before)) (record_cause form before row))
    (first_fault_after form (before ++ row ∷ []) rest)

-- whether the first record is the header
abbrev pub has_header : List (List ℕ) → List Record → Bool
has_header header [] = false
has_header header (first ∷ rest) = has_fields first header

-- the fault of a file that doesn't begin with the header
abbrev pub header_fault : Table → List (List ℕ) → List Record → Option TableFault
header_fault table header records =
    if has_header header records then None else Some (record { table = table; at = 1; cause = BadHeader })

-- the first fault of the records of a file, record by record
abbrev pub first_fault : Form → List Record → Option TableFault
first_fault form records =
    option_or (header_fault form.table form.header records) (first_fault_after form [] (drop 1 records))

-- the fault of a pass over the whole file, which finds the first record with this cause
abbrev pub pass_fault : Table → Cause → Option ℕ → Option TableFault
pass_fault table cause found = option_map (λ row. fault_at table row cause) found

-- an error of a table of which so many records were taken
abbrev pub read_error : Table → ℕ → RowError → ReadError
read_error table rows (RowError.Bad cause) = ReadError.Bad (fault_at table rows cause)
read_error table rows RowError.OutOfMemory = ReadError.OutOfMemory

-- why a table is refused: its first fault, or memory ran out
abbrev pub IsFirst : Option TableFault → ReadError → Type 0
IsFirst first (ReadError.Bad fault) = first ≡ Some fault
IsFirst first ReadError.OutOfMemory = ⊤

-- a result is an error exactly by what is wrong
abbrev pub FailsBy : {T : Type 0} → Option Cause → Result T Cause → Type 0
FailsBy cause result = MatchResult result (λ _. cause ≡ None) (λ found. cause ≡ Some found)

-- why a record is refused: what is wrong with it, or memory ran out
abbrev pub IsWrong : Option Cause → RowError → Type 0
IsWrong cause (RowError.Bad found) = cause ≡ Some found
IsWrong cause RowError.OutOfMemory = ⊤
