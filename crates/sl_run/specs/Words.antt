-- The commands, their words and the files that they read.
use Rattle.std.specs.Prelude.{◌≡◌, ◌≤◌, ⊤, Bool, true, false, List, [], ◌∷◌, ℕ, codes, map, string_bytes, String, Option, Some, None, option_map, option_and_then, if◌then◌else◌, slice_get}
use Rattle.std.specs.Str.{bytes_eq}
use Rattle.std.specs.declared.alloc.Global.{Global}
use Rattle.sl_types.specs.declared.kinds.Rule.{Rule}
use Rattle.sl_types.specs.declared.kinds.TheConstants.{MAX_APPLICANTS}
use Rattle.sl_types.specs.declared.kinds.Rule.TheVariants as rule
use Rattle.sl_codes.specs.declared.faults.Table.{Table}
use Rattle.sl_codes.specs.declared.faults.Table.TheVariants.{Pools, Programmes, Applications, Results, Amendments}
use Rattle.sl_codes.specs.Fields.{number_within}
use Rattle.sl_amend.specs.Tables.{is_written}
use Rattle.sl_run.specs.declared.words.TheConstants.{MAX_WORKERS, MAX_LOOKS}
use Rattle.sl_run.specs.declared.letter.Letter.{Letter}
use Rattle.sl_run.specs.declared.letter.Letter.TheVariants.{H, L}
use Rattle.sl_run.specs.declared.words.Tables as spoken_tables
use Rattle.sl_run.specs.declared.words.Command as spoken
use Rattle.sl_run.specs.declared.words.Command.TheVariants as form

-- the bytes of each word
abbrev pub texts_of : List (String Global) → List (List ℕ)
texts_of words = map (λ w. string_bytes w) words

-- the letter of a command, and the names of the files of its tables
pub record TableNames : Type 0 where
  pub letter : Letter
  pub pools : List ℕ
  pub programmes : List ℕ
  pub applications : List ℕ

abbrev pub names_of : Letter → List ℕ → List ℕ → List ℕ → TableNames
names_of l p g a = record { letter = l; pools = p; programmes = g; applications = a }

-- a command, with its numbers and the names of its files
pub data Command : Type 0 where
  clear : (workers : ℕ) (tables : TableNames) → Command
  check : (tables : TableNames) (document : List ℕ) → Command
  watch : (looks workers : ℕ) (tables : TableNames) → Command
  amend : (workers : ℕ) (tables : TableNames) (document amendments : List ℕ) → Command
  print_table : (printed : Table) (tables : TableNames) (amendments : List ℕ) → Command
  demo : (applicants workers : ℕ) → Command

-- the rule that a letter gives to pools of kind `score`
abbrev pub letter_rule : Letter → Rule
letter_rule H = rule.H
letter_rule L = rule.L

-- the letter that a word is
abbrev pub letter_of : List ℕ → Option Letter
letter_of word =
    if bytes_eq word (codes "H") then Some H
    else (if bytes_eq word (codes "L") then Some L else None)

-- the table that a word is, of those that `table` prints
abbrev pub printed_of : List ℕ → Option Table
printed_of word =
    if bytes_eq word (codes "pools") then Some Pools
    else (if bytes_eq word (codes "applications") then Some Applications else None)

-- the numbers of workers, of looks and of applicants that words of 1 to 9 digits are
abbrev pub workers_of : List ℕ → Option ℕ
workers_of word = number_within 1 MAX_WORKERS word

abbrev pub looks_of : List ℕ → Option ℕ
looks_of word = number_within 1 MAX_LOOKS word

abbrev pub applicants_of : List ℕ → Option ℕ
applicants_of word = number_within 1 MAX_APPLICANTS word

-- `R W pools programmes applications`
abbrev pub clear_of : List (List ℕ) → Option Command
clear_of (letter ∷ workers ∷ p ∷ g ∷ a ∷ []) =
    option_and_then (λ l. option_map (λ w. clear w (names_of l p g a)) (workers_of workers)) (letter_of letter)
clear_of words = None

-- `R pools programmes applications result`
abbrev pub check_of : List (List ℕ) → Option Command
check_of (letter ∷ p ∷ g ∷ a ∷ document ∷ []) =
    option_map (λ l. check (names_of l p g a) document) (letter_of letter)
check_of words = None

-- `K R W pools programmes applications`
abbrev pub watch_of : List (List ℕ) → Option Command
watch_of (looks ∷ letter ∷ workers ∷ p ∷ g ∷ a ∷ []) =
    option_and_then
    (λ k. option_and_then (λ l. option_map (λ w. watch k w (names_of l p g a)) (workers_of workers)) (letter_of letter))
    (looks_of looks)
watch_of words = None

-- `R W pools programmes applications result amendments`
abbrev pub amend_of : List (List ℕ) → Option Command
amend_of (letter ∷ workers ∷ p ∷ g ∷ a ∷ document ∷ amendments ∷ []) =
    option_and_then (λ l. option_map (λ w. amend w (names_of l p g a) document amendments) (workers_of workers))
    (letter_of letter)
amend_of words = None

-- `T pools programmes applications amendments`; pools of kind `score` are read with rule H
abbrev pub table_of : List (List ℕ) → Option Command
table_of (printed ∷ p ∷ g ∷ a ∷ amendments ∷ []) =
    option_map (λ t. print_table t (names_of H p g a) amendments) (printed_of printed)
table_of words = None

-- `n W`
abbrev pub demo_of : List (List ℕ) → Option Command
demo_of (applicants ∷ workers ∷ []) =
    option_and_then (λ n. option_map (λ w. demo n w) (workers_of workers)) (applicants_of applicants)
demo_of words = None

-- the command that words are: its name, and the words of its form
abbrev pub command_of : List (List ℕ) → Option Command
command_of [] = None
command_of (name ∷ words) =
    if bytes_eq name (codes "clear") then clear_of words
    else (if bytes_eq name (codes "check") then check_of words
    else (if bytes_eq name (codes "watch") then watch_of words
    else (if bytes_eq name (codes "amend") then amend_of words
    else (if bytes_eq name (codes "table") then table_of words
    else (if bytes_eq name (codes "demo") then demo_of words else None)))))

-- words that are those of this command, and of none
abbrev pub AreWordsOf : List (List ℕ) → Command → Type 0
AreWordsOf words command = command_of words ≡ Some command

abbrev pub AreNoCommand : List (List ℕ) → Type 0
AreNoCommand words = command_of words ≡ None

-- whether a command judges a document
abbrev pub is_judging : Command → Bool
is_judging (clear workers tables) = false
is_judging (check tables document) = true
is_judging (watch looks workers tables) = false
is_judging (amend workers tables document amendments) = true
is_judging (print_table printed tables amendments) = false
is_judging (demo applicants workers) = false

-- the words are those of a command that does
abbrev pub IsJudging : List (List ℕ) → Type 0
IsJudging words = (command : Command) × AreWordsOf words command × (is_judging command ≡ true)

-- they are those of an amendment
abbrev pub IsAmend : List (List ℕ) → Type 0
IsAmend words = (workers : ℕ) × (tables : TableNames) × (document : List ℕ) × (amendments : List ℕ)
    × AreWordsOf words (amend workers tables document amendments)

-- they are those of a demo
abbrev pub IsDemo : List (List ℕ) → Type 0
IsDemo words = (applicants : ℕ) × (workers : ℕ) × AreWordsOf words (demo applicants workers)

-- whether a command clears an instance
abbrev pub is_clearing : Command → Bool
is_clearing (clear workers tables) = true
is_clearing (check tables document) = false
is_clearing (watch looks workers tables) = true
is_clearing (amend workers tables document amendments) = true
is_clearing (print_table printed tables amendments) = false
is_clearing (demo applicants workers) = true

-- the words are those of a command that does
abbrev pub IsClearing : List (List ℕ) → Type 0
IsClearing words = (command : Command) × AreWordsOf words command × (is_clearing command ≡ true)

-- a number of workers, of looks and of applicants that a command can have
abbrev pub AreWorkers : ℕ → Type 0
AreWorkers workers = (1 ≤ workers) × (workers ≤ MAX_WORKERS)

abbrev pub AreLookCount : ℕ → Type 0
AreLookCount looks = (1 ≤ looks) × (looks ≤ MAX_LOOKS)

abbrev pub AreApplicants : ℕ → Type 0
AreApplicants applicants = (1 ≤ applicants) × (applicants ≤ MAX_APPLICANTS)

-- the numbers of a command are in range
abbrev pub HasRanges : Command → Type 0
HasRanges (clear workers tables) = AreWorkers workers
HasRanges (check tables document) = ⊤
HasRanges (watch looks workers tables) = AreLookCount looks × AreWorkers workers
HasRanges (amend workers tables document amendments) = AreWorkers workers
HasRanges (print_table printed tables amendments) = is_written printed ≡ true
HasRanges (demo applicants workers) = AreApplicants applicants × AreWorkers workers

-- tables and a command that the program has read, by the texts of their names
abbrev pub tables_in : spoken_tables.Tables → TableNames
tables_in t = names_of t.letter t.pools.now t.programmes.now t.applications.now

abbrev pub command_in : spoken.Command → Command
command_in (form.Clear workers tables) = clear workers (tables_in tables)
command_in (form.Check tables document) = check (tables_in tables) document.now
command_in (form.Watch looks workers tables) = watch looks workers (tables_in tables)
command_in (form.Amend workers tables document amendments) =
    amend workers (tables_in tables) document.now amendments.now
command_in (form.Table printed tables amendments) = print_table printed (tables_in tables) amendments.now
command_in (form.Demo applicants workers) = demo applicants workers

-- a file of a command: its table, and its name
pub record File : Type 0 where
  pub table : Table
  pub name : List ℕ

-- what a command reads: the rule of pools of kind `score`, and its files in the order of its words
pub record Inputs : Type 0 where
  pub rule : Rule
  pub files : List File

abbrev pub file_of : Table → List ℕ → File
file_of table name = record { table = table; name = name }

-- three tables, and then more files
abbrev pub tables_and : TableNames → List File → Inputs
tables_and t more = record {
  rule = letter_rule t.letter;
  files = file_of Pools t.pools ∷ file_of Programmes t.programmes ∷ file_of Applications t.applications ∷ more;
}

-- no file; the rule is that of no pool
abbrev pub no_inputs : Inputs
no_inputs = record { rule = rule.H; files = [] }

-- tables and a result, with amendments and without; and tables with amendments alone
abbrev pub result_inputs : TableNames → List ℕ → Inputs
result_inputs tables document = tables_and tables (file_of Results document ∷ [])

abbrev pub round_inputs : TableNames → List ℕ → List ℕ → Inputs
round_inputs tables document amendments =
    tables_and tables (file_of Results document ∷ file_of Amendments amendments ∷ [])

abbrev pub table_inputs : TableNames → List ℕ → Inputs
table_inputs tables amendments = tables_and tables (file_of Amendments amendments ∷ [])

abbrev pub inputs_of : Command → Inputs
inputs_of (clear workers tables) = tables_and tables []
inputs_of (check tables document) = result_inputs tables document
inputs_of (watch looks workers tables) = tables_and tables []
inputs_of (amend workers tables document amendments) = round_inputs tables document amendments
inputs_of (print_table printed tables amendments) = table_inputs tables amendments
inputs_of (demo applicants workers) = no_inputs

-- what three tables alone are read as
abbrev pub inputs_in : spoken_tables.Tables → Inputs
inputs_in tables = tables_and (tables_in tables) []

-- this file stands at this place among those of a command
abbrev pub StandsAt : Inputs → ℕ → File → Type 0
StandsAt inputs k file = slice_get inputs.files k ≡ Some file
