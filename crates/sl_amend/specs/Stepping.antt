-- One row that is put to a draft.
use Rattle.std.specs.Prelude.{◌≡◌, Option, MatchOption}
use Rattle.sl_codes.specs.declared.faults.Cause.{Cause}
use Rattle.sl_codes.specs.Records.{Record}
use Rattle.sl_amend.specs.DraftMarket.{DraftMarket}
use Rattle.sl_amend.specs.Applied.{applied}

-- without a cause the row is applied, and with one the draft is as it was
abbrev pub Steps : DraftMarket → DraftMarket → Record → Option Cause → Type 0
Steps old new row cause = MatchOption cause (new ≡ applied old row) (λ found. new ≡ old)
