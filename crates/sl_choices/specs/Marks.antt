-- What is known of the rows of each applicant without a walk over them.
use Rattle.std.specs.Prelude.{◌≡◌, ◌<◌, ◌%◌, Bool, true, ℕ, List, length, get_or, nat_eq}
use Rattle.std.specs.Int.{bit_at}
use Rattle.sl_choices.specs.declared.choices.ChoiceRow.{ChoiceRow}
use Rattle.sl_choices.specs.declared.marks.Marks.{Marks}
use Rattle.sl_choices.specs.declared.marked_rows.MarkedRows.{MarkedRows}
use Rattle.sl_choices.specs.Chains.{HasLinks}
use Rattle.sl_choices.specs.Rows.{rows_of_app, takes_place, takes_prog}

-- the bit of a number, which is that of its remainder by 32, is 1
abbrev pub has_bit : ℕ → ℕ → Bool
has_bit bits number = nat_eq (bit_at bits (number % 32)) 1

-- the marks of an applicant with no row
abbrev pub no_marks : Marks
no_marks = record { rows = 0; places = 0; progs = 0 }

-- the marks of an applicant's rows: how many there are, and bits of which those of their places and programmes are 1
pub record IsMarked (own : List ChoiceRow) (marks : Marks) : Type 0 where
  pub rows : marks.rows ≡ length own
  pub places : (place : ℕ) → takes_place place own ≡ true → has_bit marks.places place ≡ true
  pub progs : (prog : ℕ) → takes_prog prog own ≡ true → has_bit marks.progs prog ≡ true

-- the marks by applicant are those of the applicants' rows
abbrev pub AreMarked : List ChoiceRow → List Marks → Type 0
AreMarked rows marks = (app : ℕ) → app < length marks → IsMarked (rows_of_app app rows) (get_or marks app no_marks)

-- the rows of a table are linked and marked, over the same applicants
pub record HasMarks (table : MarkedRows) : Type 0 where
  pub linked : HasLinks table.chains
  pub each : length table.marks.items ≡ length table.chains.last.items
  pub marked : AreMarked table.chains.rows.items table.marks.items
