-- Records taken one after another, known by the codes that were taken before.
use Rattle.std.specs.Prelude.{◌≡◌, ℕ, List, None}
use Rattle.sl_codes.specs.declared.faults.RowError.{RowError}
use Rattle.sl_codes.specs.Faults.{Form, record_cause, IsWrong}
use Rattle.sl_codes.specs.Records.{Record, codes_of}

-- nothing is wrong with a record that stands after records of these codes
abbrev pub IsRightAfter : Form → List (List ℕ) → Record → Type 0
IsRightAfter form codes row =
    (before : List Record) → codes ≡ codes_of before → record_cause form before row ≡ None

-- why a record that stands after records of these codes is refused
abbrev pub IsWrongAfter : Form → List (List ℕ) → Record → RowError → Type 0
IsWrongAfter form codes row error =
    (before : List Record) → codes ≡ codes_of before → IsWrong (record_cause form before row) error
