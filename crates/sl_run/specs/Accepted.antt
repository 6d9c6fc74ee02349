-- The files of a command in their order: which of them are accepted, and which is the first that isn't.
use Rattle.std.specs.Prelude.{◌≡◌, true, ◌⊎◌, ◌≤◌, ◌<◌, ⊤, ℕ, List, All, length, Option, Some, None}
use Rattle.std.specs.Option.{option_or}
use Rattle.sl_io.specs.declared.shelf.TheConstants.{LONGEST_FILE}
use Rattle.sl_io.specs.Shelf.{Files}
use Rattle.sl_types.specs.declared.kinds.Rule.{Rule}
use Rattle.sl_codes.specs.declared.faults.Table.{Table}
use Rattle.sl_codes.specs.declared.faults.Table.TheVariants.{Pools, Programmes, Applications, Results, Amendments}
use Rattle.sl_codes.specs.declared.faults.TableFault.{TableFault}
use Rattle.sl_codes.specs.Faults.{first_fault}
use Rattle.sl_codes.specs.Records.{records_of, rows_of}
use Rattle.sl_pools.specs.Pools.{PoolList, pools_of, first_pool_fault}
use Rattle.sl_pools.specs.Programmes.{ProgList, programme_form, programmes_of}
use Rattle.sl_choices.specs.Choices.{choice_form, choices_of}
use Rattle.sl_instance.specs.NamedMarket.{NamedMarket}
use Rattle.sl_instance.specs.Assembly.{IsAssembled}
use Rattle.sl_instance.specs.Causes.{merits_fault}
use Rattle.sl_doc.specs.Reading.{doc_fault}
use Rattle.sl_amend.specs.Files.{amendments_fault}
use Rattle.sl_run.specs.Words.{Command, clear, check, watch, amend, print_table, demo, File, Inputs}

-- a shelf tells what its files hold
abbrev pub IsTold : Files → Type 0
IsTold shelf = shelf.tells ≡ true

-- it does to a command that reads files; to one that reads none there is nothing to tell
abbrev pub IsToldTo : Files → Command → Type 0
IsToldTo shelf (clear workers tables) = IsTold shelf
IsToldTo shelf (check tables document) = IsTold shelf
IsToldTo shelf (watch looks workers tables) = IsTold shelf
IsToldTo shelf (amend workers tables document amendments) = IsTold shelf
IsToldTo shelf (print_table printed tables amendments) = IsTold shelf
IsToldTo shelf (demo applicants workers) = ⊤

-- a file is told, is no longer than a file may be, and its text passes
abbrev pub Holds : Files → List ℕ → (List ℕ → Type 0) → Type 0
Holds shelf name P =
    (text : List ℕ) × (shelf.contents name ≡ Some text) × (length text ≤ LONGEST_FILE) × P text

-- a file is told, and is longer
abbrev pub HoldsTooMuch : Files → List ℕ → Type 0
HoldsTooMuch shelf name = (text : List ℕ) × (shelf.contents name ≡ Some text) × (LONGEST_FILE < length text)

-- the pools of an instance with their codes, and its programmes with theirs
abbrev pub pools_in : NamedMarket → PoolList
pools_in n = record { codes = n.pool_codes; pools = n.market.pools }

abbrev pub progs_in : NamedMarket → ProgList
progs_in n = record { codes = n.prog_codes; pools = n.market.progs }

-- the first fault of the text of a table
abbrev pub pool_fault : Rule → List ℕ → Option TableFault
pool_fault rule text = first_pool_fault rule (records_of text)

abbrev pub programme_fault : List (List ℕ) → List ℕ → Option TableFault
programme_fault pool_codes text = first_fault (programme_form pool_codes) (records_of text)

abbrev pub choice_fault : List (List ℕ) → List ℕ → Option TableFault
choice_fault prog_codes text = first_fault (choice_form prog_codes) (records_of text)

-- of its records, and then of merits in trees
abbrev pub application_fault : PoolList → ProgList → List ℕ → Option TableFault
application_fault pools progs text =
    option_or (choice_fault progs.codes text)
    (merits_fault pools progs (choices_of progs.codes (rows_of text)))

abbrev pub document_fault : NamedMarket → Rule → List ℕ → Option TableFault
document_fault n rule text = doc_fault n rule (records_of text)

abbrev pub amendment_fault : NamedMarket → List ℕ → Option TableFault
amendment_fault n text = amendments_fault n (records_of text)

-- the same of a table, over an instance that has what the files before it hold
abbrev pub fault_in : Rule → NamedMarket → Table → List ℕ → Option TableFault
fault_in rule n Pools text = pool_fault rule text
fault_in rule n Programmes text = programme_fault n.pool_codes text
fault_in rule n Applications text = application_fault (pools_in n) (progs_in n) text
fault_in rule n Results text = document_fault n rule text
fault_in rule n Amendments text = amendment_fault n text

-- what the file of a table holds is what an instance has: its pools, its programmes, its applicants with their
-- lists
abbrev pub Gives : Rule → NamedMarket → Table → List ℕ → Type 0
Gives rule n Pools text = pools_of rule (rows_of text) ≡ pools_in n
Gives rule n Programmes text = programmes_of n.pool_codes (rows_of text) ≡ progs_in n
Gives rule n Applications text =
    IsAssembled (pools_in n) (progs_in n) (choices_of n.prog_codes (rows_of text)) n
Gives rule n Results text = ⊤
Gives rule n Amendments text = ⊤

-- the text has no fault, and gives what the instance has
abbrev pub IsTextFor : Rule → NamedMarket → Table → List ℕ → Type 0
IsTextFor rule n table text = (fault_in rule n table text ≡ None) × Gives rule n table text

-- a file holds such a text for its table
abbrev pub HoldsFor : Files → Rule → NamedMarket → File → Type 0
HoldsFor shelf rule n file = Holds shelf file.name (IsTextFor rule n file.table)

-- each of these files does
abbrev pub Hold : Files → Rule → NamedMarket → List File → Type 0
Hold shelf rule n files = All (HoldsFor shelf rule n) files

-- all files of a command are accepted, as those of this instance
abbrev pub AreAccepted : Files → Inputs → NamedMarket → Type 0
AreAccepted shelf inputs n = Hold shelf inputs.rule n inputs.files

-- they are where they are told
abbrev pub AreReadAs : Files → Inputs → NamedMarket → Type 0
AreReadAs shelf inputs n = IsTold shelf → AreAccepted shelf inputs n

-- these files are accepted, as those of some instance
abbrev pub AreHeld : Files → Rule → List File → Type 0
AreHeld shelf rule files = (n : NamedMarket) × Hold shelf rule n files

-- a file after those before it is the first that isn't accepted, and this is its first fault
pub record IsRefused (shelf : Files) (rule : Rule) (earlier : List File) (file : File) (fault : TableFault)
    : Type 0 where
  pub n : NamedMarket
  pub before : Hold shelf rule n earlier
  pub first : Holds shelf file.name (λ text. fault_in rule n file.table text ≡ Some fault)

-- a file after those before it is the first that isn't accepted: it is too long
pub record IsTooLong (shelf : Files) (rule : Rule) (earlier : List File) (file : File) : Type 0 where
  pub before : AreHeld shelf rule earlier
  pub told : HoldsTooMuch shelf file.name

-- a file after those before it is the first that isn't accepted
abbrev pub IsStop : Files → Rule → List File → File → Type 0
IsStop shelf rule earlier file =
    ((fault : TableFault) × IsRefused shelf rule earlier file fault) ⊎ IsTooLong shelf rule earlier file
