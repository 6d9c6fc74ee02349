use Rattle.std.proofs.Common.{◌≡◌, ◌++◌, List, length, position, None}
use Rattle.sl_codes.specs.Records.{Record, rows_of}
use Rattle.sl_amend.specs.Files.{names_differing, names_tied}
use Rattle.sl_amend.proofs.passes.fault_read.Given as goal

-- of the rows so far none names a choice that differs, and the first that names a tied one is known
abbrev pub invariant-rows : goal.invariant-rows
invariant-rows l =
    (read : List Record) × (rows_of l.bytes ≡ read ++ l.records) × (length read ≡ l.at)
    × (position (names_differing l.draft) read ≡ None) × (l.tied ≡ position (names_tied l.draft) read)

abbrev pub decreases-rows : goal.decreases-rows
decreases-rows l = length l.records
