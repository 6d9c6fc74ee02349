-- What one fetch says of a shelf, and what reading the file says then.
use Rattle.std.specs.Prelude.{◌≡◌, ◌⊎◌, ◌≤◌, ℕ, List, length, Option, Some, None}
use Rattle.sl_io.specs.Shelf.{Files, RoseAt}
use Rattle.sl_io.specs.declared.shelf.TheConstants.{LONGEST_FILE}
use Rattle.sl_types.specs.declared.kinds.Rule.{Rule}
use Rattle.sl_codes.specs.declared.faults.Table.{Table}
use Rattle.sl_codes.specs.declared.faults.TableFault.{TableFault}
use Rattle.sl_codes.specs.Records.{Record, rows_of}
use Rattle.sl_pools.specs.Pools.{PoolList, pools_of}
use Rattle.sl_pools.specs.Programmes.{ProgList, programmes_of}
use Rattle.sl_choices.specs.Choices.{ChoiceList, choices_of}
use Rattle.sl_instance.specs.NamedMarket.{NamedMarket}
use Rattle.sl_instance.specs.Assembly.{IsAssembled}
use Rattle.sl_doc.specs.Document.{Document}
use Rattle.sl_doc.specs.Reading.{document_of}
use Rattle.sl_run.specs.declared.failure.Failure.{Failure}
use Rattle.sl_run.specs.declared.failure.Failure.TheVariants.{Refused, TooLong, Unreadable, OutOfMemory}
use Rattle.sl_run.specs.Accepted.{IsTold, HoldsTooMuch, pool_fault, programme_fault, choice_fault, application_fault, document_fault, amendment_fault}

-- where the files are told, that of this name has this text
abbrev pub IsTextOf : Files → List ℕ → List ℕ → Type 0
IsTextOf shelf name text = IsTold shelf → (shelf.contents name ≡ Some text) × (length text ≤ LONGEST_FILE)

-- the file of this name passes
abbrev pub Reads : Files → List ℕ → (List ℕ → Type 0) → Type 0
Reads shelf name P = (text : List ℕ) × P text × IsTextOf shelf name text

-- a text without a fault, and what it gives: pools, programmes, choices, a document, rows
abbrev pub GivesPools : Rule → PoolList → List ℕ → Type 0
GivesPools rule pools text = (pool_fault rule text ≡ None) × (pools_of rule (rows_of text) ≡ pools)

abbrev pub GivesProgrammes : List (List ℕ) → ProgList → List ℕ → Type 0
GivesProgrammes pool_codes progs text =
    (programme_fault pool_codes text ≡ None) × (programmes_of pool_codes (rows_of text) ≡ progs)

abbrev pub GivesChoices : List (List ℕ) → ChoiceList → List ℕ → Type 0
GivesChoices prog_codes choices text =
    (choice_fault prog_codes text ≡ None) × (choices_of prog_codes (rows_of text) ≡ choices)

-- an application table without a fault, and the instance that it makes with the other two
abbrev pub GivesInstance : PoolList → ProgList → NamedMarket → List ℕ → Type 0
GivesInstance pools progs n text =
    (application_fault pools progs text ≡ None)
    × IsAssembled pools progs (choices_of progs.codes (rows_of text)) n

abbrev pub GivesDocument : NamedMarket → Rule → Document → List ℕ → Type 0
GivesDocument n rule doc text = (document_fault n rule text ≡ None) × (doc ≡ document_of n (rows_of text))

abbrev pub GivesRows : NamedMarket → List Record → List ℕ → Type 0
GivesRows n rows text = (amendment_fault n text ≡ None) × (rows ≡ rows_of text)

-- why the file of a table was not fetched
abbrev pub IsFetchCause : Table → Files → Files → List ℕ → Failure → Type 0
IsFetchCause table before after name failure =
    ((failure ≡ Unreadable table) × RoseAt before after name)
    ⊎ ((failure ≡ TooLong table) × (IsTold before → HoldsTooMuch before name))
    ⊎ (failure ≡ OutOfMemory)

-- why it was not read: it was not fetched, or its text has a first fault
abbrev pub IsFileCause : Table → (List ℕ → Option TableFault) → Files → Files → List ℕ → Failure → Type 0
IsFileCause table first before after name failure =
    IsFetchCause table before after name failure
    ⊎ ((fault : TableFault) × (failure ≡ Refused fault) × Reads before name (λ text. first text ≡ Some fault))
