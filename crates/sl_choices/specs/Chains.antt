-- The rows of each applicant, linked from the last to the first.
-- A link to a row is one more than its place in the table, and 0 is a link to none.
use Rattle.std.specs.Prelude.{◌≡◌, ◌≤◌, ◌<◌, ◌-◌, ℕ, List, length, take, get_or}
use Rattle.sl_choices.specs.declared.chains.Chains.{Chains}
use Rattle.sl_choices.specs.declared.choices.ChoiceRow.{ChoiceRow}
use Rattle.sl_choices.specs.Rows.{rows_of_app, IsChoiceList}

-- what stands at a link to no row
abbrev pub no_row : ChoiceRow
no_row = record { app = record { 0 = 0 }; place = 0; prog = record { 0 = 0 }; score = 0 }

-- a link to the last row of an applicant among the first n
pub record IsLast (rows : List ChoiceRow) (app n link : ℕ) : Type 0 where
  pub within : link ≤ n
  pub none_later : rows_of_app app (take n rows) ≡ rows_of_app app (take link rows)
  pub own : 0 < link → (get_or rows (link - 1) no_row).app.0 ≡ app

-- each applicant has a link to their last row, and each row one to the row of its applicant before it
pub record AreLinked (rows : List ChoiceRow) (last before : List ℕ) : Type 0 where
  pub each : length before ≡ length rows
  pub apps : (k : ℕ) → k < length rows → (get_or rows k no_row).app.0 < length last
  pub to_last : (app : ℕ) → app < length last → IsLast rows app (length rows) (get_or last app 0)
  pub to_before : (k : ℕ) → k < length rows → IsLast rows (get_or rows k no_row).app.0 k (get_or before k 0)

-- the rows of a table are linked
abbrev pub HasLinks : Chains → Type 0
HasLinks chains = AreLinked chains.rows.items chains.last.items chains.before.items

-- a table that was read keeps its rows, and links for each applicant of these codes
pub record AreKept (codes : List (List ℕ)) (chains : Chains) : Type 0 where
  pub right : IsChoiceList (record { codes = codes; rows = chains.rows.items })
  pub linked : HasLinks chains
  pub each : length chains.last.items ≡ length codes
