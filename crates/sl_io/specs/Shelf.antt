-- What a shelf of files appends and tells.
use Rattle.std.specs.Prelude.{◌≡◌, ◌≤◌, ◌<◌, ◌+◌, ◌++◌, ℕ, Bool, true, false, List, length, take, Option, Some, None, Result, Ok, Err}
use Rattle.sl_io.specs.declared.shelf.FetchError.{FetchError}
use Rattle.sl_io.specs.declared.shelf.FetchError.TheVariants.{Fault, TooLong, OutOfMemory}
use Rattle.sl_io.specs.declared.shelf.TheConstants.{LONGEST_FILE}
use Rattle.sl_io.specs.Count.{next_count, Rose}

-- what a shelf tells of its files: whether it tells them, the bytes of each name, and the count of faults of each
pub record Files : Type 0 where
  pub tells : Bool
  pub contents : List ℕ → Option (List ℕ)
  pub faults : List ℕ → ℕ

-- a shelf has the same files as before, and no count of faults has fallen
pub record KeepsFiles (before now : Files) : Type 0 where
  pub still_tells : now.tells ≡ before.tells
  pub same : (name : List ℕ) → now.contents name ≡ before.contents name
  pub never_falls : (name : List ℕ) → before.faults name ≤ now.faults name

-- the count of faults of a name rose
abbrev pub RoseAt : Files → Files → List ℕ → Type 0
RoseAt before now name = Rose (before.faults name) (now.faults name)

-- at most the longest file was appended, and no byte before it changed
abbrev pub AppendsFile : List ℕ → List ℕ → Type 0
AppendsFile old new = (take (length old) new ≡ old) × (length new ≤ length old + LONGEST_FILE)

-- where the contents are told, the file of that name was appended
abbrev pub AppendsTold : Files → List ℕ → List ℕ → List ℕ → Type 0
AppendsTold files name old new =
    files.tells ≡ true → (file : List ℕ) × (files.contents name ≡ Some file) × (new ≡ old ++ file)

-- where the contents are told, the file of that name is too long
abbrev pub ToldTooLong : Files → List ℕ → Type 0
ToldTooLong files name =
    files.tells ≡ true → (file : List ℕ) × (files.contents name ≡ Some file) × (LONGEST_FILE < length file)

-- a fault is counted, and nothing else is
abbrev pub Counts : Result (Unit {0}) FetchError → ℕ → ℕ → Type 0
Counts (Ok u) before now = now ≡ before
Counts (Err Fault) before now = now ≡ next_count before
Counts (Err TooLong) before now = now ≡ before
Counts (Err OutOfMemory) before now = now ≡ before

-- a shelf that tells nothing of its files, with one count for all names
abbrev pub untold : ℕ → Files
untold count = record { tells = false; contents = λ name. None; faults = λ name. count }
