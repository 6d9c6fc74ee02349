-- The text of a record is what `csv` writes by default, where no field holds the end of a line.
use Rattle.std.proofs.Common.{◌≡◌, refl, sym, ℕ, ◌||◌, Bool, true, false, not, true≢false, List, [], ◌∷◌, append_assoc, inl, inr}
use Rattle.std.proofs.lemmas.Bool.{and_parts}
use Rattle.std.proofs.lemmas.Bool.Decides.{eqb_tells}
use Rattle.std.specs.Prelude.{◌==◌, flat_map}
use Rattle.std.specs.List.{list_any, list_all}
use Rattle.csv.specs.Quoting.{needs_byte}
use Rattle.csv.specs.Writing.{default_writer, needs_quotes, escaped, fields_text, is_blank, row_text}
use Rattle.csv.specs.Writing as csv
use Rattle.sl_codes.specs.Records.{Record}
use Rattle.sl_codes.specs.RecordText.{is_set_apart, doubled, field_text, later_text, text_of_record}

abbrev pub ends_line : ℕ → Bool
ends_line b = b == 13 || b == 10

abbrev pub is_one_line : List ℕ → Bool
is_one_line field = not (list_any ends_line field)

-- no field of a record holds the end of a line
abbrev pub AreOneLine : Record → Type 0
AreOneLine row = list_all is_one_line row ≡ true

-- whether a byte calls for quotes, where it ends no line
byte_needs : (b : ℕ) → ends_line b ≡ false → needs_byte default_writer b ≡ is_set_apart b
byte_needs b plain = rw plain (or_false (is_set_apart b))
  where
    or_false : (x : Bool) → (x || false || false || false) ≡ x
    or_false true = refl
    or_false false = refl

or_left : (x y : Bool) → (x || y) ≡ false → x ≡ false
or_left false y h = refl
or_left true y h = h

or_right : (x y : Bool) → (x || y) ≡ false → y ≡ false
or_right false y h = h
or_right true y h = absurd (true≢false h)

not_true : (b : Bool) → not b ≡ true → b ≡ false
not_true true h = absurd (true≢false (sym h))
not_true false h = refl

needs_plain : (field : List ℕ) → list_any ends_line field ≡ false → needs_quotes default_writer field ≡ list_any is_set_apart field
needs_plain [] plain = refl
needs_plain (b ∷ rest) plain = rw (byte_needs b (or_left (ends_line b) (list_any ends_line rest) plain), needs_plain rest (or_right (ends_line b) (list_any ends_line rest) plain)) refl

escaped_doubled : (field : List ℕ) → escaped default_writer field ≡ flat_map doubled field
unfolding escaped
escaped_doubled [] = refl
escaped_doubled (b ∷ rest) = elim (eqb_tells b 34) [
  | inl e ↦ rw (e.0, e.1, escaped_doubled rest) refl
  | inr e ↦ rw (e.0, escaped_doubled rest) refl
]

field_plain : (field : List ℕ) → is_one_line field ≡ true → csv.field_text default_writer field ≡ field_text field
field_plain field plain = rw (needs_plain field (not_true (list_any ends_line field) plain), escaped_doubled field) refl

later_plain : (fields : Record) → AreOneLine fields → fields_text default_writer fields ≡ flat_map later_text fields
unfolding fields_text
later_plain [] plain = refl
later_plain (field ∷ fields) plain =
    let parts = and_parts (is_one_line field) (list_all is_one_line fields) plain in
    rw (field_plain field parts.0, later_plain fields parts.1) refl

-- a record of two fields or more
pub row_plain : (first second : List ℕ) (rest : Record) → AreOneLine (first ∷ second ∷ rest)
    → row_text default_writer (first ∷ second ∷ rest) ≡ text_of_record (first ∷ second ∷ rest)
unfolding is_blank
row_plain first second rest plain =
    let parts = and_parts (is_one_line first) (list_all is_one_line (second ∷ rest)) plain in
    rw (field_plain first parts.0, later_plain (second ∷ rest) parts.1) (append_assoc (field_text first) (flat_map later_text (second ∷ rest)) (10 ∷ []))
