-- Fields of a record.
use Rattle.std.proofs.Common.{◌≡◌, ◌∙◌, ap, sym, ℕ, zero, suc, ◌<◌, ◌&&◌, Bool, true, not, cond, nat_le, List, [], ◌∷◌, length, get_or, Some, None, refl, arith, inl, inr}
use Rattle.std.specs.Prelude.{Result, Ok}
use Rattle.std.specs.Result.{result_ok}
use Rattle.std.specs.List.{list_all, AllByRecursion}
use Rattle.std.specs.Char.{is_ascii_digit}
use Rattle.std.specs.Str.{all_ascii_digits, is_utf8, IsUtf8}
use Rattle.std.specs.Str.Parse.{ParsesUnsigned, digits_value}
use Rattle.std.proofs.lemmas.Bool.{and_parts, leb-true, cases_Bool}
use Rattle.std.proofs.lemmas.Str.{IsUtf8-from_ascii, IsUtf8-from_is_utf8, is_utf8-from_IsUtf8}
use Rattle.std.proofs.lemmas.List.Elements.{All-from_recursion}
use Rattle.std.proofs.lemmas.Str.Ascii.{IsAscii-from_all}
use Rattle.std.proofs.lemmas.Str.Parse.{numerals_by_value, tells_all_ascii_digits, digits_value_short, parse_gives}
use Rattle.csv.specs.Records.{field_at}
use Rattle.sl_codes.specs.declared.faults.Cause.TheVariants.{NotText, BadCode}
use Rattle.sl_codes.specs.Faults.{code_cause, cause_if}
use Rattle.sl_codes.specs.Fields.{has_code_form, is_number, number_of_field}

pub field_at-get_or : (row : List (List ℕ)) (i : ℕ) → i < length row → field_at row i ≡ Some (get_or row i [])
unfolding field_at
field_at-get_or [] i h = absurd (omega (arith, h))
field_at-get_or (f ∷ fs) zero h = refl
field_at-get_or (f ∷ fs) (suc i) h = field_at-get_or fs i (omega (arith, h))

digits_small : (ds : List ℕ) → list_all is_ascii_digit ds ≡ true → AllByRecursion (λ b. b < 128) ds
digits_small [] h = tt
digits_small (d ∷ ds) h =
    let parts = and_parts (is_ascii_digit d) (list_all is_ascii_digit ds) h in
    let ends = and_parts (nat_le 48 d) (nat_le d 57) parts.0 in
    let top = leb-true d 57 ends.1 in
    (omega (arith, top), digits_small ds parts.1)

-- a number is text
pub number_IsUtf8 : (field : List ℕ) → is_number field ≡ true → IsUtf8 field
number_IsUtf8 field h =
    let parts = and_parts (nat_le 1 (length field) && nat_le (length field) 9) (list_all is_ascii_digit field) h in
    IsUtf8-from_ascii field (IsAscii-from_all field (All-from_recursion _ field (digits_small field parts.1)))

-- what is no text stands for no number
pub no_number : (field : List ℕ) → ¬ (IsUtf8 field) → number_of_field field ≡ None
no_number field h = elim (cases_Bool (is_number field)) [
  | inl e ↦ absurd (h (number_IsUtf8 field e))
  | inr e ↦ rw e refl
]

-- both tests of digits are one
pub digits_alike : (ds : List ℕ) → all_ascii_digits ds ≡ list_all is_ascii_digit ds
digits_alike [] = refl
digits_alike (d ∷ ds) = rw (digits_alike ds) refl

-- a number of few digits is read as it is meant
pub number_parsed : {E : Type 0} (ds : List ℕ) (r : Result ℕ E) → ParsesUnsigned 32 10 ds r → is_number ds ≡ true → result_ok r ≡ number_of_field ds
number_parsed {E} ds r h e =
    let parts = and_parts (nat_le 1 (length ds) && nat_le (length ds) 9) (list_all is_ascii_digit ds) e in
    let sizes = and_parts (nat_le 1 (length ds)) (nat_le (length ds) 9) parts.0 in
    let digits : all_ascii_digits ds ≡ true = digits_alike ds ∙ parts.1 in
    let own = numerals_by_value (λ (cs : List ℕ). all_ascii_digits cs ≡ true) tells_all_ascii_digits in
    let short = digits_value_short own ds 9 digits (leb-true (length ds) 9 sizes.1) in
    let some = leb-true 1 (length ds) sizes.0 in
    let ok : r ≡ Ok (digits_value 10 ds) = parse_gives own 32 ds r h digits (omega (arith, some)) (omega (arith, short)) in
    ap result_ok ok ∙ sym (ap (λ (b : Bool). cond b (Some (digits_value 10 ds)) None) e)

-- what is wrong with a field that is text, and with one that isn't
pub code_cause-text : (field : List ℕ) → IsUtf8 field → code_cause field ≡ cause_if (not (has_code_form field)) BadCode
code_cause-text field h = rw (is_utf8-from_IsUtf8 field h) refl

pub code_cause-no_text : (field : List ℕ) → ¬ (IsUtf8 field) → code_cause field ≡ Some NotText
code_cause-no_text field h = elim (cases_Bool (is_utf8 field)) [
  | inl e ↦ absurd (h (IsUtf8-from_is_utf8 field e))
  | inr e ↦ rw e refl
]
