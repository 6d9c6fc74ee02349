-- What a reader of records has left.
use Rattle.std.specs.Prelude.{◌≡◌, ◌+◌, ◌||◌, ◌&&◌, not, Bool, true, false, ℕ, List, [], ◌∷◌, Option, Some, None, length, is_some, is_none, if◌then◌else◌}
use Rattle.std.specs.Borrow.{Bor}
use Rattle.csv.specs.Reading.{records_from, default_config, is_flexible, source_of}
use Rattle.csv.specs.declared.parser.State.{State}
use Rattle.csv.specs.declared.reader.Reader.{Reader}
use Rattle.csv.specs.declared.reader.Trim.TheVariants as trim
use Rattle.sl_codes.specs.Records.{Record}

-- the records of bytes, from a state of `csv`'s machine; where it isn't known what the bytes are, none
abbrev pub records_after : State → Option (List ℕ) → List Record
records_after state None = []
records_after state (Some bytes) = records_from default_config (length bytes + 2) state bytes

-- the bytes that a reader has left
abbrev pub bytes_left : Reader (Bor (List ℕ)) → Option (List ℕ)
bytes_left reader = source_of (λ bytes. Some bytes.now) reader

-- the records that a reader has left; once it has ended, none
abbrev pub records_left : Reader (Bor (List ℕ)) → Bool → List Record
records_left reader has_ended = if has_ended then [] else records_after reader.state (bytes_left reader)

-- the next read of a reader is of one record
abbrev pub is_ready : Reader (Bor (List ℕ)) → Bool
is_ready reader = reader.first || (not reader.has_headers && is_none reader.headers)

-- a reader that reads as `csv` does with its default settings, takes records of any length, has no header row of its
-- own and knows its bytes
pub record IsReading (reader : Reader (Bor (List ℕ))) : Type 0 where
  pub plain : reader.trim ≡ trim.None
  pub default : reader.config ≡ default_config
  pub flexible : is_flexible reader ≡ true
  pub ready : is_ready reader ≡ true
  pub known : is_some (bytes_left reader) ≡ true

-- a read gives the next record, or there was none left
abbrev pub GivesNext : List Record → Bool → Record → List Record → Type 0
GivesNext before true row after = before ≡ row ∷ after
GivesNext before false row after = before ≡ []
