-- Fields: codes and numbers.
use Rattle.std.specs.Prelude.{ℕ, Bool, ◌==◌, ◌&&◌, not, List, length, nat_le, if◌then◌else◌, Option, Some, None, option_and_then, unwrap_or}
use Rattle.std.specs.List.{list_all}
use Rattle.std.specs.Char.{is_ascii_digit}
use Rattle.std.specs.Str.{is_utf8}
use Rattle.sl_codes.specs.declared.fields.TheConstants.{MAX_CODE}
use Rattle.std.specs.Str.Parse.{digits_value}

-- no byte below 0x20, and not 0x7F
abbrev pub is_code_byte : ℕ → Bool
is_code_byte b = nat_le 0x20 b && not (b == 0x7F)

-- 1 to 64 of these bytes
abbrev pub has_code_form : List ℕ → Bool
has_code_form field = nat_le 1 (length field) && nat_le (length field) MAX_CODE && list_all is_code_byte field

-- UTF-8 of this form
abbrev pub is_code : List ℕ → Bool
is_code field = is_utf8 field && has_code_form field

-- 1 to 9 digits
abbrev pub is_number : List ℕ → Bool
is_number field = nat_le 1 (length field) && nat_le (length field) 9 && list_all is_ascii_digit field

-- the number that a field stands for
abbrev pub number_of_field : List ℕ → Option ℕ
number_of_field field = if is_number field then Some (digits_value 10 field) else None

-- the number of a field, from low to high
abbrev pub number_within : ℕ → ℕ → List ℕ → Option ℕ
number_within low high field =
    option_and_then (λ n. if nat_le low n && nat_le n high then Some n else None) (number_of_field field)

-- the number that a field stands for, or 0
abbrev pub number_in : List ℕ → ℕ
number_in field = unwrap_or (number_of_field field) 0
