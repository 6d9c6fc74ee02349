-- What contracts see of a shelf in memory.
use Rattle.std.specs.Prelude.{◌≡◌, true, false, nat_lt, nat_eq, length, map, string_bytes, Result, IsErrOf, IfErr, ℕ, Bool, List, [], ◌∷◌, Option, Some, None, if◌then◌else◌, String, Vec}
use Rattle.std.specs.declared.alloc.Global.{Global}
use Rattle.std.specs.Bool.{MatchBool}
use Rattle.std.specs.Str.{bytes_eq}
use Rattle.std.specs.List.{list_any}
use Rattle.sl_io.specs.declared.shelf.FetchError.{FetchError}
use Rattle.sl_io.specs.declared.shelf.FetchError.TheVariants.{Fault, TooLong, OutOfMemory}
use Rattle.sl_io.specs.declared.shelf.TheConstants.{LONGEST_FILE}
use Rattle.sl_io.specs.Count.{next_count}
use Rattle.sl_io.specs.Shelf.{Files}

-- the bytes of each name and of its file, which calls are to fail, and the counts of calls and of faults
pub record MemFiles : Type 0 where
  pub files : List (List ℕ × List ℕ)
  pub fails : List ℕ
  pub calls : ℕ
  pub faults : ℕ

-- the bytes of each name and of its file
abbrev pub files_of : List (String Global × Vec ℕ Global) → List (List ℕ × List ℕ)
files_of files = map (λ f. (string_bytes f.0, f.1.items)) files

-- a shelf of these files, with the numbers of the calls that are to fail, after so many calls and faults
abbrev pub mem_files : List (String Global × Vec ℕ Global) → List ℕ → ℕ → ℕ → MemFiles
mem_files files fails calls faults = record { files = files_of files; fails = fails; calls = calls; faults = faults }

-- the first file of a name
unfoldable pub file_of : List (List ℕ × List ℕ) → List ℕ → Option (List ℕ)
file_of [] name = None
file_of (f ∷ fs) name = if bytes_eq f.0 name then Some f.1 else file_of fs name

-- whether the next call is to fail
abbrev pub fails_next : MemFiles → Bool
fails_next s = list_any (λ n. nat_eq n (next_count s.calls)) s.fails

-- what a call answers: a fault where it is to fail or there is no such file, and else that the file is too long;
-- a file that is no longer is appended, or there is too little memory
abbrev pub Answers : Bool → Option (List ℕ) → Result (Unit {0}) FetchError → Type 0
Answers true file r = IsErrOf r Fault
Answers false None r = IsErrOf r Fault
Answers false (Some file) r =
    MatchBool (nat_lt LONGEST_FILE (length file)) (IsErrOf r TooLong) (IfErr r (λ e. e ≡ OutOfMemory))

-- it tells its files, and has one count for all names
abbrev pub told : MemFiles → Files
told s = record { tells = true; contents = file_of s.files; faults = λ name. s.faults }
