-- The text of a record, as this project writes it.
use Rattle.std.specs.Prelude.{ℕ, ◌==◌, ◌||◌, Bool, List, [], ◌∷◌, ◌++◌, if◌then◌else◌, map, flat_map}
use Rattle.std.specs.List.{list_any}
use Rattle.std.specs.Fmt.{decimal}
use Rattle.sl_codes.specs.declared.field_text.Field.{Field}
use Rattle.sl_codes.specs.declared.field_text.Field.TheVariants.{Text, Number}
use Rattle.sl_codes.specs.Records.{Record}

abbrev pub comma : ℕ
comma = 0x2C

abbrev pub quote : ℕ
quote = 0x22

abbrev pub line_feed : ℕ
line_feed = 0x0A

-- a double quote is written twice, each other byte once
abbrev pub doubled : ℕ → List ℕ
doubled b = if b == quote then quote ∷ quote ∷ [] else b ∷ []

abbrev pub is_set_apart : ℕ → Bool
is_set_apart b = b == comma || b == quote

-- a field is quoted exactly where it holds a comma or a double quote
abbrev pub field_text : List ℕ → List ℕ
field_text field = if list_any is_set_apart field then quote ∷ (flat_map doubled field ++ quote ∷ []) else field

-- a field after the first stands behind a comma
abbrev pub later_text : List ℕ → List ℕ
later_text field = comma ∷ field_text field

-- the line of a record
abbrev pub text_of_record : Record → List ℕ
text_of_record [] = line_feed ∷ []
text_of_record (field ∷ rest) = field_text field ++ (flat_map later_text rest ++ line_feed ∷ [])

-- the bytes of a field that is given to be printed
abbrev pub bytes_of_field : Field → List ℕ
bytes_of_field (Text text) = text.now
bytes_of_field (Number number) = decimal number

-- the record that fields make
abbrev pub record_of : List Field → Record
record_of fields = map bytes_of_field fields
