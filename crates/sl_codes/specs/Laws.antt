-- What the first fault is, said by the place of its record.
use Rattle.std.specs.Prelude.{◌≡◌, ℕ, ◌<◌, List, [], length, take, get_or, Option, Some, None}
use Rattle.sl_codes.specs.declared.faults.Cause.{Cause}
use Rattle.sl_codes.specs.Faults.{Form, record_cause, first_fault_after, fault_at}
use Rattle.sl_codes.specs.Records.{Record}

-- what is wrong with the record at a place, by the records before it
abbrev pub cause_at : Form → List Record → ℕ → Option Cause
cause_at form rows k = record_cause form (take k rows) (get_or rows k [])

-- of the records after a header, the first with something wrong has the first fault; where none has, there is none
pub record FirstFaultSays : Type 0 where
  pub found : (form : Form) (rows : List Record) (k : ℕ) (cause : Cause) → k < length rows
      → ((j : ℕ) → j < k → cause_at form rows j ≡ None)
      → cause_at form rows k ≡ Some cause → first_fault_after form [] rows ≡ Some (fault_at form.table k cause)
  pub none : (form : Form) (rows : List Record)
      → ((j : ℕ) → j < length rows → cause_at form rows j ≡ None) → first_fault_after form [] rows ≡ None
