-- What an amendment comes to.
use Rattle.std.proofs.Common.{◌≡◌, ◌≢◌, ◌∙◌, [], ℕ, List, true, None, Some, refl, sym, ap, arith, true≢false}
use Rattle.std.specs.Prelude.{◌↔◌, Option, IfSome, IsSome}
use Rattle.sl_types.specs.declared.kinds.Raise.{Raise}
use Rattle.sl_types.specs.declared.kinds.Rule.{Rule}
use Rattle.sl_types.specs.Valid.{IsValid}
use Rattle.sl_check.specs.declared.verdict.Verdict.{Verdict}
use Rattle.sl_check.specs.declared.verdict.Verdict.TheVariants.{Yes}
use Rattle.sl_codes.specs.Records.{Record}
use Rattle.sl_core.specs.Parts.{BeginsWith}
use Rattle.sl_doc.specs.Document.{Document}
use Rattle.sl_doc.specs.ResultText.{result_text}
use Rattle.sl_floor.specs.Ending.{Closing, IsWholeLog}
use Rattle.sl_instance.specs.NamedMarket.{NamedMarket, IsNamed}
use Rattle.sl_run.specs.declared.done.Done.{Done}
use Rattle.sl_run.specs.Ending.{Ending, ending_in, ending_of_amendment, unproved}
use Rattle.sl_run.specs.Receipt.{IsClearedOn}
use Rattle.sl_run.specs.Result.{IsResultOf}
use Rattle.sl_io.specs.Shelf.{Files}
use Rattle.sl_codes.specs.declared.faults.Table.{Table}
use Rattle.sl_amend.specs.Tables.{text_of_table}
use Rattle.sl_run.specs.Words.{TableNames, Inputs, amend, letter_rule, round_inputs}
use Rattle.sl_io.specs.Sink.{Output, Takes}
use Rattle.sl_run.specs.declared.failure.Failure.{Failure}
use Rattle.sl_run.specs.declared.failure.Failure.TheVariants.{Unwritable, OutOfMemory}
use Rattle.sl_run.specs.Accepted.{IsTold, Holds, AreReadAs}
use Rattle.sl_run.specs.Causes.{IsCause}
use Rattle.sl_run.specs.Fetching.{GivesDocument}
use Rattle.sl_run.specs.Receipt.{AnswersReceipt, IsOfFloor}
use Rattle.sl_run.specs.Run.{IsJudged, IsResultFrom, Reworks, IsVerdictOn, Concludes, ConcludesPart, Performs, PerformsPart, HoldsRows, is_of_output, IsTabled, HoldsAmended, amended_by, kept_of}

-- the result of an amended instance
pub result_from : (rule : Rule) (n m : NamedMarket) (rows : List Record) (raises : List Raise) (doc : Document) (receipt : Closing)
    → m ≡ amended_by n rows → IsValid m.market → IsNamed m → IsResultOf m.market doc → BeginsWith (kept_of n rows raises) doc.raises
    → IsClearedOn m.market (kept_of n rows raises) doc receipt → IsResultFrom rule n rows raises (Some receipt) (result_text m rule doc)
result_from rule n m rows raises doc receipt is valid named result begins floor = record {
  doc = doc;
  cleared = rw (sym is) (record { cleared = record { valid = valid; named = named; result = result }; begins = begins; floor = floor });
  text_is = ap (λ (k : NamedMarket). result_text k rule doc) is;
}

-- a round that was concluded answers a receipt exactly where its document is proved
receipt_by : (n : NamedMarket) (rule : Rule) (rows : List Record) (raises : List Raise) (verdict : Verdict) (receipt : Option Closing) (text : List ℕ) (status : ℕ)
    → Reworks rule n rows raises verdict receipt text → (ending_of_amendment n verdict).status ≡ status → IsSome receipt ↔ (status ≡ 0)
receipt_by n rule rows raises Yes None text status reworks is = absurd reworks.cleared.floor
receipt_by n rule rows raises Yes (Some receipt) text status reworks is = (λ some. sym is, λ zero. refl)
receipt_by n rule rows raises verdict None text status reworks is = (λ some. absurd (true≢false (sym some)), λ zero. absurd (let no = is ∙ zero in omega (arith, no)))
receipt_by n rule rows raises verdict (Some receipt) text status reworks is = let no : Some receipt ≡ None = reworks.0 in cc no

pub concluded_receipt : (rule : Rule) (n : NamedMarket) (rows : List Record) (doc : Document) (IsPut : List ℕ → Type 0) (done : Done) (workers : ℕ) (t : TableNames) (document amendments : List ℕ)
    → Concludes rule n rows doc IsPut done → AnswersReceipt (amend workers t document amendments) done.status done.receipt
concluded_receipt rule n rows doc IsPut done workers t document amendments h =
    let (to, from) = receipt_by n rule rows doc.raises h.verdict done.receipt h.text done.status h.reworks (ap (λ (x : Ending). x.status) h.ends) in
    (λ some. (to some, refl), λ both. from both.0)

-- a document that isn't proved concludes an amendment
pub unproved_concludes : (rule : Rule) (n : NamedMarket) (rows : List Record) (doc : Document) (IsPut : List ℕ → Type 0) (done : Done) (verdict : Verdict)
    → verdict ≢ Yes → IsVerdictOn n doc verdict → ending_in done ≡ unproved n verdict → done.receipt ≡ None → IsPut [] → Concludes rule n rows doc IsPut done
unproved_concludes rule n rows doc IsPut done Yes other right ends nothing put = absurd (other refl)
unproved_concludes rule n rows doc IsPut done verdict other right ends nothing put = record {
  verdict = verdict;
  right = right;
  ends = sym ends;
  text = [];
  reworks = (nothing, refl);
  put = put;
}

-- the floor of an amendment has a whole log
pub amend_floor : (workers : ℕ) (t : TableNames) (document amendments : List ℕ) (receipt : Option Closing) → IfSome receipt IsWholeLog
    → IfSome receipt (IsOfFloor (amend workers t document amendments))
amend_floor workers t document amendments None whole = tt
amend_floor workers t document amendments (Some receipt) whole = record { kept = λ is. absurd (true≢false (sym is)); whole = whole }

-- a failure of the output, or of memory, where all files had been accepted
pub output_cause : (inputs : Inputs) (before after : Files) (n : NamedMarket) → AreReadAs before inputs n → (failure : Failure) → is_of_output failure ≡ true
    → IsCause inputs before after failure
output_cause inputs before after n held Unwritable late = λ told. (n, held told)
output_cause inputs before after n held OutOfMemory late = tt
output_cause inputs before after n held failure late = absurd (true≢false (sym late))

-- a round of five files that was concluded, and one that was broken off
module _ (shelf : Files) (workers : ℕ) (t : TableNames) (document amendments : List ℕ) (n : NamedMarket) (rows : List Record) (doc : Document) (before after : Output)
    (held : AreReadAs shelf (round_inputs t document amendments) n) (valid : IsValid n.market) (named : IsNamed n)
    (read : IsTold shelf → Holds shelf document (GivesDocument n (letter_rule t.letter) doc)) (holds : IsTold shelf → HoldsRows shelf amendments n rows) where
  abbrev old : (verdict : Verdict) → IsVerdictOn n doc verdict → IsTold shelf → IsJudged shelf (letter_rule t.letter) document n verdict
  old verdict right told = record { valid = valid; named = named; doc = doc; read = read told; right = right }

  pub amend_performs : (done : Done) → Concludes (letter_rule t.letter) n rows doc (Takes before after) done → Performs shelf (amend workers t document amendments) before after done
  amend_performs done h = λ told. record {
    n = n;
    held = held told;
    verdict = h.verdict;
    text = h.text;
    comes = record { old = old h.verdict h.right told; rows = rows; holds = holds told; reworks = h.reworks };
    put = h.put;
    ends = h.ends;
  }

  pub amend_part : ConcludesPart (letter_rule t.letter) n rows doc before after → PerformsPart shelf (amend workers t document amendments) before after
  amend_part h = λ told.
      let (receipt, reworks) = h.part in
      let (text, comes, put) = reworks in (
        Some receipt,
        record {
          n = n;
          held = held told;
          verdict = Yes;
          text = text;
          comes = record { old = old Yes h.right told; rows = rows; holds = holds told; reworks = comes };
          put = put;
          ends = refl;
        },
      )

-- a table of an amended instance
pub tabled_from : (shelf : Files) (printed : Table) (amendments : List ℕ) (n m : NamedMarket) → HoldsAmended shelf amendments n m → IsValid m.market → IsNamed m
    → IsTabled shelf printed amendments n None (text_of_table m printed)
tabled_from shelf printed amendments n m (rows, holds, is) valid named = record {
  rows = rows;
  holds = holds;
  amended = rw (sym is) (record { valid = valid; named = named });
  nothing = refl;
  text_is = ap (λ (k : NamedMarket). text_of_table k printed) is;
}
