-- What is wrong with a record: its frame first, and then its fields.
use Rattle.std.proofs.Common.{◌≡◌, ◌∙◌, ◌<◌, ℕ, nat_le, List, length, Option, Some, None, refl, ap, leb-false}
use Rattle.std.specs.Option.{option_or}
use Rattle.sl_codes.specs.declared.faults.Cause.{Cause}
use Rattle.sl_codes.specs.declared.faults.Cause.TheVariants.{TooMany}
use Rattle.sl_codes.specs.Faults.{record_cause, cause_if}
use Rattle.sl_codes.specs.Records.{Record}
use Rattle.sl_codes.proofs.FirstFault.{neither, unbroken}
use Rattle.sl_instance.specs.NamedMarket.{NamedMarket}
use Rattle.sl_amend.specs.declared.rows.TheConstants.{MAX_AMENDMENTS}
use Rattle.sl_amend.specs.DraftMarket.{DraftMarket, opening}
use Rattle.sl_amend.specs.Causes.{cause_of_row}
use Rattle.sl_amend.specs.Applied.{draft_after}
use Rattle.sl_amend.specs.Files.{rows_form, amendment_form}
use Rattle.sl_amend.specs.Frame.{frame_cause, row_cause}

or_nothing : (o : Option Cause) → option_or o None ≡ o
or_nothing None = refl
or_nothing (Some x) = refl

pub or_later : (a b c : Option Cause) → option_or a (option_or b c) ≡ option_or (option_or a b) c
or_later None b c = refl
or_later (Some x) b c = refl

pub rows_cause : (before : List Record) (row : Record) → record_cause rows_form before row ≡ frame_cause (length before) row
rows_cause before row = or_later _ _ None ∙ or_nothing (frame_cause (length before) row)

pub amendment_cause : (named : NamedMarket) (before : List Record) (row : Record)
    → record_cause (amendment_form named) before row ≡ option_or (frame_cause (length before) row) (cause_of_row (draft_after (opening named) before) row)
amendment_cause named before row = or_later _ _ (cause_of_row (draft_after (opening named) before) row)

-- a record that isn't one too many has room before it
pub has_room : (before : ℕ) (row : Record) → frame_cause before row ≡ None → before < MAX_AMENDMENTS
has_room before row h =
    leb-false MAX_AMENDMENTS before (unbroken (nat_le MAX_AMENDMENTS before) TooMany (neither _ (cause_if (nat_le MAX_AMENDMENTS before) TooMany) h).1)

-- the number of records before counts alone
pub frame_at : (rows : List Record) (before : ℕ) (row : Record) → length rows ≡ before → frame_cause (length rows) row ≡ frame_cause before row
frame_at rows before row same = ap (λ n. frame_cause n row) same

-- the same draft after as many records
pub same_cause : (n before : ℕ) (old draft : DraftMarket) (row : Record) → n ≡ before → old ≡ draft → option_or (frame_cause n row) (cause_of_row old row) ≡ row_cause before draft row
same_cause n before old draft row count is = ap (λ m. option_or (frame_cause m row) (cause_of_row old row)) count ∙ ap (λ (d : DraftMarket). option_or (frame_cause before row) (cause_of_row d row)) is
