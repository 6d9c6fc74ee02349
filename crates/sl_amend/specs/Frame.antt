-- What is wrong with a record of an amendment file whatever its fields say.
use Rattle.std.specs.Prelude.{ℕ, ◌==◌, not, length, nat_le, Option}
use Rattle.std.specs.Option.{option_or}
use Rattle.sl_codes.specs.declared.faults.Cause.{Cause}
use Rattle.sl_codes.specs.declared.faults.Cause.TheVariants.{FieldCount, TooMany}
use Rattle.sl_codes.specs.Faults.{cause_if}
use Rattle.sl_codes.specs.Records.{Record}
use Rattle.sl_amend.specs.DraftMarket.{DraftMarket}
use Rattle.sl_amend.specs.Causes.{cause_of_row}
use Rattle.sl_amend.specs.declared.rows.TheConstants.{MAX_AMENDMENTS}

-- a record that has so many before it has another number of fields than the header, or is one too many
abbrev pub frame_cause : ℕ → Record → Option Cause
frame_cause before row =
    option_or (cause_if (not (length row == 5)) FieldCount) (cause_if (nat_le MAX_AMENDMENTS before) TooMany)

-- the same, and then what is wrong with the fields where it is applied to a draft
abbrev pub row_cause : ℕ → DraftMarket → Record → Option Cause
row_cause before draft row = option_or (frame_cause before row) (cause_of_row draft row)
