-- How a table and a cause are called in a line on standard error.
use Rattle.std.specs.Prelude.{ℕ, List, codes}
use Rattle.sl_codes.specs.declared.faults.Table.{Table}
use Rattle.sl_codes.specs.declared.faults.Table.TheVariants.{Pools, Programmes, Applications, Results, Amendments}
use Rattle.sl_codes.specs.declared.faults.Cause.{Cause}
use Rattle.sl_codes.specs.declared.faults.Cause.TheVariants as cause

-- the word for a table
abbrev pub table_word : Table → List ℕ
table_word Pools = codes "pools"
table_word Programmes = codes "programmes"
table_word Applications = codes "applications"
table_word Results = codes "result"
table_word Amendments = codes "amendments"

-- the name of a cause
abbrev pub cause_name : Cause → List ℕ
cause_name cause.NotText = codes "NotText"
cause_name cause.BadHeader = codes "BadHeader"
cause_name cause.FieldCount = codes "FieldCount"
cause_name cause.BadCode = codes "BadCode"
cause_name cause.BadNumber = codes "BadNumber"
cause_name cause.TooMany = codes "TooMany"
cause_name cause.RepeatedPool = codes "RepeatedPool"
cause_name cause.BadQuota = codes "BadQuota"
cause_name cause.BadKind = codes "BadKind"
cause_name cause.UnknownParent = codes "UnknownParent"
cause_name cause.ParentCycle = codes "ParentCycle"
cause_name cause.TooDeep = codes "TooDeep"
cause_name cause.KindDiffers = codes "KindDiffers"
cause_name cause.RepeatedProgramme = codes "RepeatedProgramme"
cause_name cause.UnknownPool = codes "UnknownPool"
cause_name cause.UnknownProgramme = codes "UnknownProgramme"
cause_name cause.RepeatedChoice = codes "RepeatedChoice"
cause_name cause.RepeatedPlace = codes "RepeatedPlace"
cause_name cause.ListTooLong = codes "ListTooLong"
cause_name cause.MeritDiffers = codes "MeritDiffers"
cause_name cause.MeritTied = codes "MeritTied"
cause_name cause.NotEmpty = codes "NotEmpty"
cause_name cause.UnknownApplicant = codes "UnknownApplicant"
cause_name cause.KnownApplicant = codes "KnownApplicant"
cause_name cause.UnknownChoice = codes "UnknownChoice"
cause_name cause.LastChoice = codes "LastChoice"
cause_name cause.RuleDiffers = codes "RuleDiffers"
cause_name cause.OutOfOrder = codes "OutOfOrder"
cause_name cause.BadEnd = codes "BadEnd"
cause_name cause.AfterEnd = codes "AfterEnd"
cause_name cause.NoEnd = codes "NoEnd"
