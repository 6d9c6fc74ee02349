-- The receipt of the floor on which an instance was cleared.
use Rattle.std.specs.Prelude.{◌≡◌, ◌↔◌, [], ℕ, Bool, List, true, false, Option, Some, None, IsSome, slice_index}
use Rattle.sl_types.specs.declared.kinds.Raise.{Raise}
use Rattle.sl_types.specs.Market.{Market}
use Rattle.sl_nesting.specs.Published.{ArePublished}
use Rattle.sl_floor.specs.Ending.{Closing, IsWholeLog}
use Rattle.sl_team.specs.Clearing.{IsReceiptOf, AreLoggedRaises}
use Rattle.sl_doc.specs.Document.{Document}
use Rattle.sl_run.specs.declared.done.Done.{Done}
use Rattle.sl_run.specs.Words.{Command, clear, check, watch, amend, print_table, demo, AreWordsOf, is_clearing, IsClearing}

-- an instance was cleared on a floor that opened with these kept raises and was closed with this receipt: the limits
-- of a document are the effective limits of its words, and the raises are its whole log in order of ticket, without
-- the void ones
pub record IsClearedOn (market : Market) (kept : List Raise) (doc : Document) (receipt : Closing) : Type 0 where
  pub floor : IsReceiptOf market kept receipt
  pub whole : IsWholeLog receipt
  pub limits : ArePublished market (slice_index receipt.words) doc.limits
  pub raises : AreLoggedRaises market
      (record { limits = doc.limits; raises = doc.raises; seen = []; receipt = receipt })

-- whether a command clears an instance from the beginning, with no kept raise
abbrev pub begins_anew : Command → Bool
begins_anew (clear workers tables) = true
begins_anew (check tables document) = false
begins_anew (watch looks workers tables) = true
begins_anew (amend workers tables document amendments) = false
begins_anew (print_table printed tables amendments) = false
begins_anew (demo applicants workers) = true

-- a receipt of some floor, with its whole log, which opened with no raise where the command begins anew
pub record IsOfFloor (command : Command) (receipt : Closing) : Type 0 where
  pub kept : begins_anew command ≡ true → receipt.kept ≡ []
  pub whole : IsWholeLog receipt

-- the words are those of a command for which it is
abbrev pub IsOfFloorFor : List (List ℕ) → Closing → Type 0
IsOfFloorFor words receipt = (command : Command) × AreWordsOf words command × IsOfFloor command receipt

-- how a command was done that cleared an instance, and one that didn't
abbrev pub done_with : Closing → Done
done_with receipt = record { status = 0; line = None; receipt = Some receipt }

abbrev pub done_without : ℕ → Done
done_without status = record { status = status; line = None; receipt = None }

-- a command answers a receipt exactly where it cleared an instance and ended with status 0
abbrev pub AnswersReceipt : Command → ℕ → Option Closing → Type 0
AnswersReceipt command status receipt = IsSome receipt ↔ ((status ≡ 0) × (is_clearing command ≡ true))

-- words answer one exactly where they are those of such a command, and it ended with status 0
abbrev pub AnswerReceipt : List (List ℕ) → ℕ → Option Closing → Type 0
AnswerReceipt words status receipt = IsSome receipt ↔ ((status ≡ 0) × IsClearing words)
