-- The number of a field.
use Rattle.std.proofs.Common.{◌≡◌, ℕ, Bool, true, false, ◌&&◌, cond, List, nat_le, Option, Some, None}
use Rattle.std.specs.Prelude.{unwrap_or, option_and_then}
use Rattle.sl_codes.specs.Fields.{number_of_field, number_within, number_in}

-- a number that is in its range is the number of the field
pub number_is : (low high n : ℕ) (field : List ℕ) → number_within low high field ≡ Some n → number_in field ≡ n
number_is low high n field h = at low high n (number_of_field field) h
  where
    tested : (b : Bool) (m n : ℕ) → cond b (Some m) None ≡ Some n → m ≡ n
    tested true m n h = cc h
    tested false m n h = cc h

    at : (low high n : ℕ) (o : Option ℕ) → option_and_then (λ m. cond (nat_le low m && nat_le m high) (Some m) None) o ≡ Some n → unwrap_or o 0 ≡ n
    at low high n None h = cc h
    at low high n (Some m) h = tested (nat_le low m && nat_le m high) m n h
