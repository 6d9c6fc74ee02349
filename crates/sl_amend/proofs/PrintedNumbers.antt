-- Numbers and codes that are written are read back.
use Rattle.std.proofs.Common.{◌≡◌, ◌∙◌, ◌<◌, ◌≤◌, ◌^◌, ◌&&◌, ℕ, Bool, true, cond, nat_le, List, [], length, get_or, Some, None, refl, sym, ap, arith}
use Rattle.std.specs.Prelude.{unwrap_or}
use Rattle.std.specs.List.{list_all, position_or_len, IsDistinct}
use Rattle.std.specs.Char.{is_ascii_digit}
use Rattle.std.specs.Fmt.{decimal}
use Rattle.std.specs.Str.{all_ascii_digits, bytes_eq}
use Rattle.std.specs.Str.Parse.{digits_value}
use Rattle.std.proofs.lemmas.Bool.{and_from, le-leb, lt-ltb}
use Rattle.std.proofs.lemmas.Cmp.{nat_list_eq_equiv}
use Rattle.std.proofs.lemmas.Fmt.{digits_decimal, digits_value-decimal, length-decimal-le, decimal_nonempty}
use Rattle.std.proofs.lemmas.List.Sums.{position_or_len_is}
use Rattle.std.proofs.lemmas.Map.Keys.{apart_from_distinct}
use Rattle.std.proofs.lemmas.Str.Parse.{IsNumeralModel, numerals_by_value, tells_all_ascii_digits}
use Rattle.sl_codes.specs.Codes.{number_of}
use Rattle.sl_codes.specs.Fields.{is_number, number_of_field, number_in}
use Rattle.sl_codes.proofs.FieldLemmas.{digits_alike}
use Rattle.sl_codes.specs.Faults.{number_cause}

own : IsNumeralModel (λ (cs : List ℕ). all_ascii_digits cs ≡ true) (digits_value 10)
own = numerals_by_value (λ (cs : List ℕ). all_ascii_digits cs ≡ true) tells_all_ascii_digits

wide : (k : ℕ) → k < 10 ^ 9 → k < 2 ^ 64
wide k small = omega (arith, small)

-- a number of few digits is read as it is written
pub decimal_read : (k : ℕ) → k < 10 ^ 9 → number_of_field (decimal k) ≡ Some k
decimal_read k small =
    let digits : list_all is_ascii_digit (decimal k) ≡ true = sym (digits_alike (decimal k)) ∙ digits_decimal own k (wide k small) in
    let some = le-leb 1 (length (decimal k)) (let more = decimal_nonempty k (wide k small) in omega (arith, more)) in
    let few = le-leb (length (decimal k)) 9 (length-decimal-le 9 k (omega arith) small (wide k small)) in
    let is : is_number (decimal k) ≡ true = and_from (nat_le 1 (length (decimal k)) && nat_le (length (decimal k)) 9) (list_all is_ascii_digit (decimal k)) (and_from (nat_le 1 (length (decimal k))) (nat_le (length (decimal k)) 9) some few) digits in
    ap (λ (b : Bool). cond b (Some (digits_value 10 (decimal k))) None) is ∙ ap Some (digits_value-decimal own k (wide k small))

pub decimal_in : (k : ℕ) → k < 10 ^ 9 → number_in (decimal k) ≡ k
decimal_in k small = ap (λ o. unwrap_or o 0) (decimal_read k small)

pub decimal_right : (low high k : ℕ) → low ≤ k → k ≤ high → high < 10 ^ 9 → number_cause low high (decimal k) ≡ None
decimal_right low high k above below small =
    let a = le-leb low k above in
    let b = le-leb k high below in
    let read = decimal_read k (omega (arith, below, small)) in
    rw (read, a, b) refl

pub same_code : (code : List ℕ) → bytes_eq code code ≡ true
same_code code = nat_list_eq_equiv.refl code

-- a code that stands once is found at its number
pub code_found : (codes : List (List ℕ)) (k : ℕ) → IsDistinct bytes_eq codes → k < length codes → number_of codes (get_or codes k []) ≡ Some k
code_found codes k once lt =
    let code = get_or codes k [] in
    let at : position_or_len (bytes_eq code) codes ≡ k = position_or_len_is (bytes_eq code) codes k [] (omega (arith, lt))
    (λ j below. nat_list_eq_equiv.symm code (get_or codes j []) ∙ apart_from_distinct bytes_eq codes j k [] once below lt)
    (λ within. nat_list_eq_equiv.refl code) in
    rw at (let inside = lt-ltb k (length codes) lt in rw inside refl)
