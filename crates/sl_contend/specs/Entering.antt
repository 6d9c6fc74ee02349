-- Rows of numbers, into which numbers are entered in rising order.
use Rattle.std.specs.Prelude.{◌≡◌, ℕ, ◌+◌, Bool, false, not, ◌&&◌, if◌then◌else◌, List, [], ◌∷◌, ◌++◌, map, nat_eq, Option, Some, None, vec_len}
use Rattle.std.specs.List.{list_any, range_with_len}
use Rattle.sl_types.specs.declared.kinds.PoolId.{PoolId}
use Rattle.sl_contend.specs.declared.filling.Filling.{Filling}
use Rattle.sl_contend.specs.declared.rows.Rows.{Rows}
use Rattle.sl_contend.specs.Rows.{placed_in, last_of, numbers_of}

-- rows that are being filled, by the numbers of what they hold
abbrev pub rows_of : {T : Type 0} → (T → ℕ) → Filling T → List (List ℕ)
rows_of number rows = map (λ Q. map number (placed_in Q rows.placed.items)) (range_with_len 0 (vec_len rows.last))

-- whether there is a number, and it is x
abbrev pub is_number : Option ℕ → ℕ → Bool
is_number None x = false
is_number (Some y) x = nat_eq y x

-- whether x is the last of a row
abbrev pub ends_in : List ℕ → ℕ → Bool
ends_in row x = is_number (last_of row) x

-- a row with x at its end
abbrev pub entered : List ℕ → ℕ → List ℕ
entered row x = if ends_in row x then row else row ++ x ∷ []

-- rows of the numbers from k on, with x entered into those whose number passes
abbrev pub enter_from : (ℕ → Bool) → ℕ → List (List ℕ) → ℕ → List (List ℕ)
enter_from p k [] x = []
enter_from p k (row ∷ rows) x = (if p k then entered row x else row) ∷ enter_from p (k + 1) rows x

-- rows with x entered into those whose number passes
abbrev pub enter_where : (ℕ → Bool) → List (List ℕ) → ℕ → List (List ℕ)
enter_where p rows x = enter_from p 0 rows x

-- the same, without the rows that are x's own
abbrev pub enter_others : (ℕ → Bool) → (ℕ → Bool) → List (List ℕ) → ℕ → List (List ℕ)
enter_others own p rows x = enter_where (λ Q. not (own Q) && p Q) rows x

-- x was entered into the rows whose number passes, but for its own
abbrev pub Enters : {T : Type 0} → (T → ℕ) → (ℕ → Bool) → (ℕ → Bool) → ℕ → Filling T → Filling T → Type 0
Enters number own p x old new = rows_of number new ≡ enter_others own p (rows_of number old) x

-- a pool was entered into the rows of the other pools that pass
abbrev pub EntersPool : PoolId → (ℕ → Bool) → Filling PoolId → Filling PoolId → Type 0
EntersPool pool p old new = Enters (λ q. q.0) (λ Q. nat_eq Q pool.0) p pool.0 old new

-- a list up to the last that passes
abbrev pub up_to_last : {A : Type 0} → (A → Bool) → List A → List A
up_to_last p [] = []
up_to_last p (x ∷ xs) = if list_any p (x ∷ xs) then x ∷ up_to_last p xs else []

-- these rows, in one vector
abbrev pub HoldFilled : {T : Type 0} → (T → ℕ) → Filling T → Rows T → Type 0
HoldFilled number filled rows = numbers_of number (vec_len filled.last) rows ≡ rows_of number filled
