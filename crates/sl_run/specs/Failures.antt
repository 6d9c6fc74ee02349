-- The status and the line of each way in which a command ends without its result.
use Rattle.std.specs.Prelude.{ℕ, List, ◌++◌, codes}
use Rattle.std.specs.Fmt.{decimal}
use Rattle.sl_codes.specs.Names.{table_word, cause_name}
use Rattle.sl_codes.specs.declared.faults.ReadError.{ReadError}
use Rattle.sl_io.specs.declared.sink.WriteError.{WriteError}
use Rattle.sl_run.specs.declared.failure.Failure.{Failure}
use Rattle.sl_run.specs.declared.failure.Failure.TheVariants.{Words, Refused, TooLong, Unreadable, Unwritable, OutOfMemory}

abbrev pub status_of : Failure → ℕ
status_of Words = 2
status_of (Refused fault) = 3
status_of (TooLong table) = 3
status_of (Unreadable table) = 4
status_of Unwritable = 5
status_of OutOfMemory = 6

-- a refused file has its table, the number of the record and what is wrong with it
abbrev pub line_of : Failure → List ℕ
line_of Words = codes "scorelimits: the words are not a command form\n"
line_of (Refused fault) =
    table_word fault.table ++ codes ":" ++ decimal fault.at ++ codes ": " ++ cause_name fault.cause ++ codes "\n"
line_of (TooLong table) = table_word table ++ codes ": longer than 268435456 bytes\n"
line_of (Unreadable table) = table_word table ++ codes ": cannot be read\n"
line_of Unwritable = codes "output: cannot be written\n"
line_of OutOfMemory = codes "out of memory\n"

-- what a reader's error and a writer's mean for a command
abbrev pub failure_of_read : ReadError → Failure
failure_of_read (ReadError.Bad fault) = Refused fault
failure_of_read ReadError.OutOfMemory = OutOfMemory

abbrev pub failure_of_write : WriteError → Failure
failure_of_write WriteError.Fault = Unwritable
failure_of_write WriteError.OutOfMemory = OutOfMemory
