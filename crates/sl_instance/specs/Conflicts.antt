-- Rows in conflict with an earlier one: they have its key, and another value.
use Rattle.std.specs.Prelude.{◌≡◌, ℕ, cond, Bool, false, ◌&&◌, not, List, get_or, take, length, nat_eq, position, Option, Some, None}
use Rattle.std.specs.List.{list_any, range_with_len}
use Rattle.std.specs.HashMap.{get, HashMap}
use Rattle.std.specs.declared.hash.FoldHasher.{FoldHasher}
use Rattle.std.specs.declared.hash.BuildHasherDefault.{BuildHasherDefault}

-- a key and a value; a row outside trees has none
abbrev pub Keyed : Type 0
Keyed = Option (ℕ × ℕ)

-- the row has this key and another value
abbrev pub is_against : ℕ → ℕ → Keyed → Bool
is_against key value None = false
is_against key value (Some (k, v)) = nat_eq key k && not (nat_eq value v)

-- an earlier row has the key with another value
abbrev pub has_against : List Keyed → Keyed → Bool
has_against before None = false
has_against before (Some (k, v)) = list_any (is_against k v) before

abbrev pub is_conflicted : List Keyed → ℕ → Bool
is_conflicted rows k = has_against (take k rows) (get_or rows k None)

-- the first row in conflict with an earlier one
abbrev pub first_conflict : List Keyed → Option ℕ
first_conflict rows = position (is_conflicted rows) (range_with_len 0 (length rows))

abbrev pub IsFirstConflict : List Keyed → Option ℕ → Type 0
IsFirstConflict rows first = first ≡ first_conflict rows

-- there is a known value, and it is another
abbrev pub differs : ℕ → Option ℕ → Bool
differs value None = false
differs value (Some known) = not (nat_eq value known)

abbrev pub differs_from_known : (ℕ → Option ℕ) → Keyed → Bool
differs_from_known known None = false
differs_from_known known (Some (k, v)) = differs v (known k)

-- the value of a key, if the row has the key
abbrev pub value_in : ℕ → Keyed → Option ℕ
value_in key None = None
value_in key (Some (k, v)) = cond (nat_eq key k) (Some v) None

-- the known value of a key, or else that of one more row
abbrev pub known_with : ℕ → Option ℕ → Keyed → Option ℕ
known_with key None row = value_in key row
known_with key (Some v) row = Some v

-- a value for each key
abbrev pub Values : Type 0
Values = HashMap ℕ ℕ (BuildHasherDefault FoldHasher)

-- the values after one more row are those before and, where its key had none, its own
abbrev pub KnowsMore : Values → Values → Keyed → Type 0
KnowsMore old new row = (key : ℕ) → get nat_eq new key ≡ known_with key (get nat_eq old key) row
