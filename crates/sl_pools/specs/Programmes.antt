-- The programme table: its form, and what it holds.
use Rattle.std.specs.Prelude.{◌≡◌, ◌≤◌, length, true, ℕ, List, [], ◌∷◌, map, codes, unwrap_or, Option}
use Rattle.std.specs.Option.{option_or}
use Rattle.std.specs.List.{list_all}
use Rattle.sl_types.specs.declared.kinds.PoolId.{PoolId}
use Rattle.sl_types.specs.declared.kinds.TheConstants.{MAX_PROGRAMMES}
use Rattle.sl_codes.specs.declared.faults.Cause.{Cause}
use Rattle.sl_codes.specs.declared.faults.Cause.TheVariants.{RepeatedProgramme, UnknownPool}
use Rattle.sl_codes.specs.declared.faults.Table.TheVariants.{Programmes}
use Rattle.sl_codes.specs.Codes.{number_of}
use Rattle.sl_codes.specs.Fields.{is_code}
use Rattle.sl_codes.specs.Faults.{Form, new_code_cause, name_cause}
use Rattle.sl_codes.specs.Records.{Record, field_of, codes_of}

-- the codes and the pools of programmes, in order
pub record ProgList : Type 0 where
  pub codes : List (List ℕ)
  pub pools : List PoolId

-- `programme,pool`: a code that stands in no earlier record, and the code of a pool
abbrev pub programme_fields_cause : List (List ℕ) → List Record → Record → Option Cause
programme_fields_cause pools before row =
    option_or (new_code_cause RepeatedProgramme (codes_of before) (field_of row 0))
    (name_cause UnknownPool pools (field_of row 1))

-- the form of a programme table over pools of these codes
abbrev pub programme_form : List (List ℕ) → Form
programme_form pools = record {
  table = Programmes;
  header = codes "programme" ∷ codes "pool" ∷ [];
  most = MAX_PROGRAMMES;
  fields_cause = programme_fields_cause pools;
}

-- the pool that a record names
abbrev pub pool_named : List (List ℕ) → Record → PoolId
pool_named pools row = record { 0 = unwrap_or (number_of pools (field_of row 1)) 0 }

-- what the records after the header hold
abbrev pub programmes_of : List (List ℕ) → List Record → ProgList
programmes_of pools rows = record { codes = codes_of rows; pools = map (pool_named pools) rows }

-- what a programme table that was read keeps: as many codes as pools, each of them a code
pub record IsProgList (list : ProgList) : Type 0 where
  pub each : length list.codes ≡ length list.pools
  pub few : length list.pools ≤ MAX_PROGRAMMES
  pub coded : list_all is_code list.codes ≡ true
