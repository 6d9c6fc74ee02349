-- Codes and numbers hold no end of a line.
use Rattle.std.proofs.Common.{◌≡◌, ◌+◌, ◌<◌, ◌/◌, ◌%◌, ◌&&◌, ℕ, zero, suc, true, false, not, nat_le, List, [], ◌∷◌, length, get_or, refl, ap, arith, inl, inr}
use Rattle.std.specs.Prelude.{◌==◌}
use Rattle.std.specs.List.{list_any, list_all}
use Rattle.std.specs.Fmt.{decimal, digits, digits_onto, digit_glyph}
use Rattle.std.specs.Str.{is_utf8}
use Rattle.std.proofs.lemmas.Bool.{cases_Bool, and_parts, lt-ltb, leb-true, eqb-true}
use Rattle.sl_codes.specs.Fields.{is_code, is_code_byte, has_code_form}
use Rattle.sl_codes.specs.declared.fields.TheConstants.{MAX_CODE}
use Rattle.sl_amend.proofs.PlainText.{ends_line, is_one_line}

-- a byte from 0x20 on ends no line
byte_on : (b : ℕ) → 14 < b → ends_line b ≡ false
byte_on b high = elim (cases_Bool (b == 13)) [
  | inl e ↦ absurd (let is = eqb-true b 13 e in omega (arith, is, high))
  | inr e ↦ elim (cases_Bool (b == 10)) [
    | inl f ↦ absurd (let is = eqb-true b 10 f in omega (arith, is, high))
    | inr f ↦ rw (e, f) refl
  ]
]

bytes_on : (bytes : List ℕ) → list_all is_code_byte bytes ≡ true → list_any ends_line bytes ≡ false
bytes_on [] h = refl
bytes_on (b ∷ rest) h =
    let parts = and_parts (is_code_byte b) (list_all is_code_byte rest) h in
    let high = leb-true 0x20 b (and_parts (nat_le 0x20 b) (not (b == 0x7F)) parts.0).0 in
    rw (byte_on b (omega (arith, high)), bytes_on rest parts.1) refl

-- a code
pub line_of_code : (code : List ℕ) → is_code code ≡ true → is_one_line code ≡ true
line_of_code code h =
    let form = (and_parts (is_utf8 code) (has_code_form code) h).1 in
    let bytes = (and_parts (nat_le 1 (length code) && nat_le (length code) MAX_CODE) (list_all is_code_byte code) form).1 in
    rw (bytes_on code bytes) refl

-- the code of a number, or nothing past the last
pub line_any : (codes : List (List ℕ)) (k : ℕ) → list_all is_code codes ≡ true → is_one_line (get_or codes k []) ≡ true
line_any [] k h = refl
line_any (c ∷ cs) zero h = line_of_code c (and_parts (is_code c) (list_all is_code cs) h).0
line_any (c ∷ cs) (suc k) h = line_any cs k (and_parts (is_code c) (list_all is_code cs) h).1

digit_line : (d : ℕ) → d < 10 → ends_line (digit_glyph false d) ≡ false
digit_line d h =
    let small = lt-ltb d 10 h in
    rw small (byte_on (48 + d) (omega arith))

onto_line : (k n : ℕ) (acc : List ℕ) → list_any ends_line acc ≡ false → list_any ends_line (digits_onto k 10 false n acc) ≡ false
onto_line zero n acc h = h
onto_line (suc k) n acc h =
    let glyph = digit_glyph false (n % 10) in
    let more : list_any ends_line (glyph ∷ acc) ≡ false = rw (digit_line (n % 10) (omega arith), h) refl in
    elim (cases_Bool (n / 10 == 0)) [
      | inl e ↦ rw e more
      | inr e ↦ rw e (onto_line k (n / 10) (glyph ∷ acc) more)
    ]

-- a number
pub line_of_number : (n : ℕ) → is_one_line (decimal n) ≡ true
unfolding digits
line_of_number n = ap not (onto_line 64 n [] refl)
