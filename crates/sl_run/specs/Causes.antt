-- Why a command ends as it does.
use Rattle.std.specs.Prelude.{◌≡◌, ◌⊎◌, ⊤, ℕ, List, Any, take, None}
use Rattle.sl_io.specs.Shelf.{Files, RoseAt}
use Rattle.sl_io.specs.Sink.{Output, RoseIn}
use Rattle.sl_instance.specs.NamedMarket.{NamedMarket}
use Rattle.sl_run.specs.declared.failure.Failure.{Failure}
use Rattle.sl_run.specs.declared.failure.Failure.TheVariants.{Words, Refused, TooLong, Unreadable, Unwritable, OutOfMemory}
use Rattle.sl_run.specs.Words.{Command, File, Inputs, inputs_of, AreWordsOf, AreNoCommand, StandsAt}
use Rattle.sl_run.specs.Accepted.{IsTold, IsToldTo, Holds, Hold, AreAccepted, AreHeld, IsRefused, IsTooLong, IsStop, fault_in}
use Rattle.sl_run.specs.Ending.{IsDone}

-- the count of faults of a file rose
abbrev pub RoseOf : Files → Files → File → Type 0
RoseOf before after file = RoseAt before after file.name

-- that of a file rose, or that of one before it
abbrev pub RoseUpTo : Files → Files → List File → File → Type 0
RoseUpTo before after earlier file = Any (RoseOf before after) earlier ⊎ RoseOf before after file

-- of a file of a command and those before it
abbrev pub SomeFile : Inputs → (List File → File → Type 0) → Type 0
SomeFile inputs P = (k : ℕ) × (file : File) × StandsAt inputs k file × P (take k inputs.files) file

-- of each file of a command and those before it
abbrev pub EachFile : Inputs → (List File → File → Type 0) → Type 0
EachFile inputs P = (k : ℕ) (file : File) → StandsAt inputs k file → P (take k inputs.files) file

-- the cause of a failure over the files of a command: the first file that isn't accepted, with its first fault,
-- or the count of faults of a file rose before which all are accepted. Where the output failed all files are
-- accepted. What the files hold is said where it is told. Want of memory is free
abbrev pub IsCause : Inputs → Files → Files → Failure → Type 0
IsCause inputs before after Words = ⊥
IsCause inputs before after (Refused fault) =
    SomeFile inputs (λ earlier file. IsTold before → IsRefused before inputs.rule earlier file fault)
IsCause inputs before after (TooLong table) = SomeFile inputs (λ earlier file.
    (file.table ≡ table) × (IsTold before → IsTooLong before inputs.rule earlier file))
IsCause inputs before after (Unreadable table) = SomeFile inputs (λ earlier file.
    (file.table ≡ table) × RoseOf before after file × (IsTold before → AreHeld before inputs.rule earlier))
IsCause inputs before after Unwritable = IsTold before → (n : NamedMarket) × AreAccepted before inputs n
IsCause inputs before after OutOfMemory = ⊤

-- the cause of a failure: the words are those of no command, or the files of the command are the cause
abbrev pub IsCauseOf : List (List ℕ) → Files → Files → Failure → Type 0
IsCauseOf words before after failure =
    ((failure ≡ Words) × AreNoCommand words)
    ⊎ ((command : Command) × AreWordsOf words command × IsCause (inputs_of command) before after failure)

-- a file that is the first not to be accepted is refused: with status 3, unless memory ran out or a count rose
-- on the way to it
abbrev pub Refuses : List (List ℕ) → Files → Files → ℕ → Type 0
Refuses words before after status = IsTold before → (command : Command) → AreWordsOf words command
    → EachFile (inputs_of command) (λ earlier file. IsStop before (inputs_of command).rule earlier file
    → (status ≡ 3) ⊎ (status ≡ 6) ⊎ RoseUpTo before after earlier file)

-- nothing is wrong with the files of a command, by their bytes alone: each is told, is no longer than a file may be,
-- and has no fault over what the files before it hold
abbrev pub AreFaultless : Files → Inputs → Type 0
AreFaultless shelf inputs = EachFile inputs (λ earlier file.
    (n : NamedMarket) → Hold shelf inputs.rule n earlier
    → Holds shelf file.name (λ text. fault_in inputs.rule n file.table text ≡ None))

-- a command with nothing wrong in its files is carried out, unless memory ran out or a count rose, of the files or of
-- the output
abbrev pub Completes : List (List ℕ) → Files → Files → Output → Output → ℕ → Type 0
Completes words before after out_before out_after status =
    (command : Command) → AreWordsOf words command
    → IsToldTo before command → AreFaultless before (inputs_of command)
    → IsDone command status ⊎ (status ≡ 6)
    ⊎ Any (RoseOf before after) (inputs_of command).files ⊎ RoseIn out_before out_after
