-- What a command does, from the files that it names to the text that it writes.
use Rattle.std.specs.Prelude.{◌≡◌, ◌⊎◌, ◌++◌, ⊤, ℕ, All, length, Bool, true, false, List, [], Option, Some, None, IsSomeAnd}
use Rattle.sl_io.specs.Shelf.{Files}
use Rattle.sl_io.specs.Sink.{Output, Takes, TakesPart, RoseIn}
use Rattle.sl_amend.specs.Applied.{draft_after}
use Rattle.sl_amend.specs.Cone.{kept_by}
use Rattle.sl_amend.specs.DraftMarket.{opening, amended}
use Rattle.sl_amend.specs.Origins.{origins_in}
use Rattle.sl_amend.specs.Tables.{text_of_table}
use Rattle.sl_check.specs.declared.verdict.Verdict.{Verdict}
use Rattle.sl_check.specs.declared.verdict.Verdict.TheVariants.{Yes}
use Rattle.sl_check.specs.Verdict.{IsVerdict}
use Rattle.sl_types.specs.declared.kinds.Raise.{Raise}
use Rattle.sl_types.specs.declared.kinds.Rule.{Rule}
use Rattle.sl_types.specs.Valid.{IsValid}
use Rattle.sl_floor.specs.Ending.{Closing}
use Rattle.sl_gen.specs.Round.{generated}
use Rattle.sl_instance.specs.NamedMarket.{NamedMarket, IsNamed}
use Rattle.sl_codes.specs.declared.faults.Table.{Table}
use Rattle.sl_codes.specs.Records.{Record}
use Rattle.sl_codes.specs.RecordText.{text_of_record}
use Rattle.sl_core.specs.Parts.{BeginsWith}
use Rattle.sl_doc.specs.Document.{Document}
use Rattle.sl_doc.specs.ResultText.{result_text}
use Rattle.sl_doc.specs.VerdictText.{verdict_record}
use Rattle.sl_team.specs.Clearing.{AreRising, IsAtMost}
use Rattle.sl_run.specs.declared.failure.Failure.{Failure}
use Rattle.sl_run.specs.declared.failure.Failure.TheVariants.{Words, Unwritable, OutOfMemory}
use Rattle.sl_run.specs.declared.done.Done.{Done}
use Rattle.sl_run.specs.Receipt.{IsClearedOn}
use Rattle.sl_run.specs.Result.{IsResultOf}
use Rattle.sl_run.specs.Looks.{looks_text}
use Rattle.sl_run.specs.Summary.{summary_text}
use Rattle.sl_run.specs.Words.{TableNames, Command, clear, check, watch, amend, print_table, demo, inputs_of, letter_rule, tables_and, AreWordsOf}
use Rattle.sl_run.specs.Accepted.{IsToldTo, Holds, Hold, AreAccepted, AreHeld}
use Rattle.sl_run.specs.Fetching.{GivesDocument, GivesRows}
use Rattle.sl_run.specs.Causes.{IsCauseOf, AreFaultless}
use Rattle.sl_run.specs.Ending.{Ending, ending_of, ending_of_amendment, ending_in, failed, EndsWith, IsEnding, CanEnd}

-- an instance is valid, and each of its pools, programmes and applicants has a code of its own
pub record IsInstance (n : NamedMarket) : Type 0 where
  pub valid : IsValid n.market
  pub named : IsNamed n

-- the same, and a document is its result
pub record IsCleared (n : NamedMarket) (doc : Document) : Type 0 where
  pub valid : IsValid n.market
  pub named : IsNamed n
  pub result : IsResultOf n.market doc

-- such an instance, and a file that holds a document of it, on which this is the verdict
pub record IsJudged (shelf : Files) (rule : Rule) (document : List ℕ) (n : NamedMarket) (verdict : Verdict)
    : Type 0 where
  pub valid : IsValid n.market
  pub named : IsNamed n
  pub doc : Document
  pub read : Holds shelf document (GivesDocument n rule doc)
  pub right : IsVerdict n.market doc.raises doc.limits doc.admitted doc.counts verdict

-- an instance is the generated round of so many applicants, and a document is its result
pub record IsGenerated (applicants : ℕ) (n : NamedMarket) (doc : Document) : Type 0 where
  pub market : n.market ≡ generated applicants
  pub result : IsResultOf n.market doc

-- an instance as the rows of a file leave it, and what is kept of a list of raises then
unfoldable pub amended_by : NamedMarket → List Record → NamedMarket
amended_by n rows = amended (draft_after (opening n) rows)

unfoldable pub kept_of : NamedMarket → List Record → List Raise → List Raise
kept_of n rows raises =
    let draft = draft_after (opening n) rows in kept_by n.market (amended draft).market (origins_in draft) raises

-- a file holds these rows over an instance
abbrev pub HoldsRows : Files → List ℕ → NamedMarket → List Record → Type 0
HoldsRows shelf amendments n rows = Holds shelf amendments (GivesRows n rows)

-- a file holds rows over an instance that leave another one
abbrev pub HoldsAmended : Files → List ℕ → NamedMarket → NamedMarket → Type 0
HoldsAmended shelf amendments n m = (rows : List Record) × HoldsRows shelf amendments n rows × (m ≡ amended_by n rows)

-- an instance was cleared from raises that are kept: its result begins with them, and the receipt is that of a floor
-- that opened with them
pub record IsClearedFrom (m : NamedMarket) (kept : List Raise) (doc : Document) (receipt : Option Closing) : Type 0
  where
    pub cleared : IsCleared m doc
    pub begins : BeginsWith kept doc.raises
    pub floor : IsSomeAnd receipt (IsClearedOn m.market kept doc)

-- an instance was amended by rows, and cleared from what is kept of these raises, and this is the text of the result
pub record IsResultFrom (rule : Rule) (n : NamedMarket) (rows : List Record) (raises : List Raise)
    (receipt : Option Closing) (text : List ℕ) : Type 0 where
  pub doc : Document
  pub cleared : IsClearedFrom (amended_by n rows) (kept_of n rows raises) doc receipt
  pub text_is : text ≡ result_text (amended_by n rows) rule doc

-- what an amendment comes to, by the verdict on the old document, whose raises these are: a result of the amended
-- instance, or nothing
abbrev pub Reworks : Rule → NamedMarket → List Record → List Raise → Verdict → Option Closing → List ℕ → Type 0
Reworks rule n rows raises Yes receipt text = IsResultFrom rule n rows raises receipt text
Reworks rule n rows raises verdict receipt text = (receipt ≡ None) × (text ≡ [])

-- such a result was put, or a part of it
abbrev pub ReworksTo : Rule → NamedMarket → List Record → List Raise → Option Closing → (List ℕ → Type 0) → Type 0
ReworksTo rule n rows raises receipt IsPut =
    (text : List ℕ) × IsResultFrom rule n rows raises receipt text × IsPut text

abbrev pub ReworksPart : Rule → NamedMarket → List Record → List Raise → Output → Output → Type 0
ReworksPart rule n rows raises before after =
    (receipt : Closing) × ReworksTo rule n rows raises (Some receipt) (TakesPart before after)

-- the verdict on a document
abbrev pub IsVerdictOn : NamedMarket → Document → Verdict → Type 0
IsVerdictOn n doc verdict = IsVerdict n.market doc.raises doc.limits doc.admitted doc.counts verdict

-- a round with amendments was concluded: by the verdict on its document
pub record Concludes (rule : Rule) (n : NamedMarket) (rows : List Record) (doc : Document) (IsPut : List ℕ → Type 0)
    (done : Done) : Type 0 where
  pub verdict : Verdict
  pub right : IsVerdictOn n doc verdict
  pub ends : ending_of_amendment n verdict ≡ ending_in done
  pub text : List ℕ
  pub reworks : Reworks rule n rows doc.raises verdict done.receipt text
  pub put : IsPut text

-- it was broken off
pub record ConcludesPart (rule : Rule) (n : NamedMarket) (rows : List Record) (doc : Document) (before after : Output)
    : Type 0 where
  pub right : IsVerdictOn n doc Yes
  pub part : ReworksPart rule n rows doc.raises before after

-- what `amend` comes to over its instance: the verdict on the document that a file holds, and what follows from it
-- with the rows that another file holds
pub record IsReworked (shelf : Files) (rule : Rule) (document amendments : List ℕ) (n : NamedMarket) (verdict : Verdict)
    (receipt : Option Closing) (text : List ℕ) : Type 0 where
  pub old : IsJudged shelf rule document n verdict
  pub rows : List Record
  pub holds : HoldsRows shelf amendments n rows
  pub reworks : Reworks rule n rows old.doc.raises verdict receipt text

-- what `table` comes to over its instance: a table of it as the rows of a file leave it
pub record IsTabled (shelf : Files) (printed : Table) (amendments : List ℕ) (n : NamedMarket)
    (receipt : Option Closing) (text : List ℕ) : Type 0 where
  pub rows : List Record
  pub holds : HoldsRows shelf amendments n rows
  pub amended : IsInstance (amended_by n rows)
  pub nothing : receipt ≡ None
  pub text_is : text ≡ text_of_table (amended_by n rows) printed

-- what so many looks saw: each no less than the one before, and at most the published limits, pool by pool
pub record AreLooks (looks : ℕ) (limits : List ℕ) (seen : List (List ℕ)) : Type 0 where
  pub count : length seen ≡ looks
  pub rising : AreRising seen
  pub low : All (IsAtMost limits) seen

-- what a command comes to over its instance, which is that of its tables or a generated one: its verdict, the
-- receipt that it answers, and the text that it writes
abbrev pub ComesTo : Files → Command → NamedMarket → Verdict → Option Closing → List ℕ → Type 0
ComesTo shelf (clear workers tables) n verdict receipt text =
    (doc : Document) × IsCleared n doc × IsSomeAnd receipt (IsClearedOn n.market [] doc)
    × (text ≡ result_text n (letter_rule tables.letter) doc)
ComesTo shelf (check tables document) n verdict receipt text =
    IsJudged shelf (letter_rule tables.letter) document n verdict
    × (receipt ≡ None) × (text ≡ text_of_record (verdict_record n verdict))
ComesTo shelf (watch looks workers tables) n verdict receipt text =
    (doc : Document) × (seen : List (List ℕ)) × IsCleared n doc × AreLooks looks doc.limits seen
    × IsSomeAnd receipt (IsClearedOn n.market [] doc)
    × (text ≡ looks_text n seen ++ result_text n (letter_rule tables.letter) doc)
ComesTo shelf (amend workers tables document amendments) n verdict receipt text =
    IsReworked shelf (letter_rule tables.letter) document amendments n verdict receipt text
ComesTo shelf (print_table printed tables amendments) n verdict receipt text =
    IsTabled shelf printed amendments n receipt text
ComesTo shelf (demo applicants workers) n verdict receipt text =
    (doc : Document) × IsGenerated applicants n doc × IsSomeAnd receipt (IsClearedOn n.market [] doc)
    × (text ≡ summary_text n.market doc.limits)

-- a command was carried out: its files are accepted as those of an instance, its text was put, it ended as its
-- verdict asks, and this is the receipt, if there is one
pub record IsCarriedOut (shelf : Files) (command : Command) (IsPut : List ℕ → Type 0) (HasEnding : Ending → Type 0)
    (receipt : Option Closing) : Type 0 where
  pub n : NamedMarket
  pub held : AreAccepted shelf (inputs_of command) n
  pub verdict : Verdict
  pub text : List ℕ
  pub comes : ComesTo shelf command n verdict receipt text
  pub put : IsPut text
  pub ends : HasEnding (ending_of command n verdict)

-- it was, where its files are told, and so it ended
abbrev pub Performs : Files → Command → Output → Output → Done → Type 0
Performs shelf command before after done =
    IsToldTo shelf command
    → IsCarriedOut shelf command (Takes before after) (IsEnding done) done.receipt

-- it was broken off: a part of its text was put, with whatever status it would have ended, and with no line
abbrev pub PerformsPart : Files → Command → Output → Output → Type 0
PerformsPart shelf command before after =
    IsToldTo shelf command → (receipt : Option Closing)
    × IsCarriedOut shelf command (TakesPart before after) (λ ending. ending.line ≡ None) receipt

-- what a failure leaves of the output: a part of the text where the output failed, that or nothing new where memory
-- ran out, and else nothing new
abbrev pub Leaves : Type 0 → Type 0 → Output → Output → Failure → Type 0
Leaves Same Part before after Unwritable = RoseIn before after × Part
Leaves Same Part before after OutOfMemory = Same ⊎ Part
Leaves Same Part before after failure = Same

abbrev pub LeavesOf : Files → Command → Type 0 → Output → Output → Failure → Type 0
LeavesOf shelf command Same before after = Leaves Same (PerformsPart shelf command before after) before after

-- whether a failure can come of the files that a command names, or of memory
abbrev pub is_of_files : Failure → Bool
is_of_files Words = false
is_of_files Unwritable = false
is_of_files failure = true

-- whether a failure can come of the output, or of memory
abbrev pub is_of_output : Failure → Bool
is_of_output Unwritable = true
is_of_output OutOfMemory = true
is_of_output failure = false

-- the words are those of a command, and where its files are told it was carried out
abbrev pub CarriesOut : List (List ℕ) → Files → Output → Output → (Ending → Type 0) → Option Closing → Type 0
CarriesOut words shelf before after HasEnding receipt =
    (command : Command) × AreWordsOf words command
    × (IsToldTo shelf command → IsCarriedOut shelf command (Takes before after) HasEnding receipt)

-- the words are those of a command, and where its files are told it was broken off
abbrev pub BreaksOff : List (List ℕ) → Files → Output → Output → Type 0
BreaksOff words shelf before after =
    (command : Command) × AreWordsOf words command × PerformsPart shelf command before after

-- the words are those of a command that can end so
abbrev pub CanEndBy : List (List ℕ) → Ending → Type 0
CanEndBy words ending = (command : Command) × AreWordsOf words command × CanEnd command ending

-- the words are those of a command that ended as one does that was carried out, or it ended by a failure with its
-- cause
abbrev pub Ends : List (List ℕ) → Files → Files → Output → Output → ℕ → Type 0
Ends words before after err_before err_after status =
    ((command : Command) × (n : NamedMarket) × (verdict : Verdict) × AreWordsOf words command
    × EndsWith status err_before err_after (ending_of command n verdict))
    ⊎ ((failure : Failure) × IsCauseOf words before after failure
    × EndsWith status err_before err_after (failed failure))

-- the same over files of which nothing is told
abbrev pub EndsUntold : List (List ℕ) → Output → Output → ℕ → Type 0
EndsUntold words err_before err_after status =
    (before : Files) × (after : Files) × (before.tells ≡ false)
    × Ends words before after err_before err_after status

-- over such files, the words are those of a command that was carried out: what it wrote is known where it reads none
abbrev pub CarriesOutUntold : List (List ℕ) → Output → Output → Type 0
CarriesOutUntold words before after =
    (shelf : Files) × (shelf.tells ≡ false) × (receipt : Option Closing)
    × CarriesOut words shelf before after (λ ending. ⊤) receipt

-- what a demo writes follows from the number of its applicants alone, however many workers there are
abbrev pub DemosAreOne : Type 0
DemosAreOne = (shelf shelf' : Files) (applicants workers workers' : ℕ) (n n' : NamedMarket)
    (verdict verdict' : Verdict) (receipt receipt' : Option Closing) (text text' : List ℕ)
    → ComesTo shelf (demo applicants workers) n verdict receipt text
    → ComesTo shelf' (demo applicants workers') n' verdict' receipt' text' → text ≡ text'

-- files hold the tables of one instance at most, with one list of codes each
abbrev pub TablesAreOne : Type 0
TablesAreOne = (shelf : Files) (rule : Rule) (tables : TableNames) (n n' : NamedMarket)
    → Hold shelf rule n (tables_and tables []).files → Hold shelf rule n' (tables_and tables []).files → n ≡ n'

-- three tables with nothing wrong in them are those of an instance
abbrev pub TablesHaveInstance : Type 0
TablesHaveInstance = (shelf : Files) (tables : TableNames)
    → AreFaultless shelf (tables_and tables []) → AreHeld shelf (letter_rule tables.letter) (tables_and tables []).files
