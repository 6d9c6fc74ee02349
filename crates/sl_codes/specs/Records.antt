-- The records of a file, as `csv` reads them with its default settings.
use Rattle.std.specs.Prelude.{Bool, ℕ, List, [], map, drop, get_or}
use Rattle.std.specs.Str.{bytes_eq}
use Rattle.std.specs.Cmp.Lexicographic.{pointwise}
use Rattle.csv.specs.Reading.{records, default_config, strip_bom}

-- the fields of a record
abbrev pub Record : Type 0
Record = List (List ℕ)

-- the records of a file, after one byte order mark where it begins with one
abbrev pub records_of : List ℕ → List Record
records_of bytes = records default_config (strip_bom bytes)

-- the records after the header
abbrev pub rows_of : List ℕ → List Record
rows_of bytes = drop 1 (records_of bytes)

-- the field at a place, counted from 0
abbrev pub field_of : Record → ℕ → List ℕ
field_of row i = get_or row i []

-- the first fields of records, which are codes in most tables
abbrev pub codes_of : List Record → List (List ℕ)
codes_of rows = map (λ row. field_of row 0) rows

-- whether a record has exactly these fields
abbrev pub has_fields : Record → List (List ℕ) → Bool
has_fields row fields = pointwise bytes_eq row fields
