-- The pool table: its form, the passes over the whole file, and what it holds.
use Rattle.std.specs.Prelude.{◌≡◌, ◌≤◌, length, ℕ, Bool, true, ◌&&◌, ◌||◌, not, List, [], ◌∷◌, map, codes, unwrap_or, position, is_none, cond, drop, Option, None, option_map, MatchOption, false}
use Rattle.std.specs.Option.{option_or}
use Rattle.std.specs.List.{list_all}
use Rattle.std.specs.Str.{bytes_eq}
use Rattle.sl_types.specs.declared.kinds.Pool.{Pool}
use Rattle.sl_types.specs.declared.kinds.PoolId.{PoolId}
use Rattle.sl_types.specs.declared.kinds.Rule.{Rule}
use Rattle.sl_types.specs.declared.kinds.Rule.TheVariants.{Merit}
use Rattle.sl_types.specs.declared.kinds.TheConstants.{MAX_POOLS, MAX_QUOTA}
use Rattle.sl_types.specs.Market.{market_of_pools}
use Rattle.sl_types.specs.Valid as Valid
use Rattle.sl_types.specs.Valid.{first_in_ring, first_too_deep, first_badly_nested}
use Rattle.sl_codes.specs.declared.faults.Cause.{Cause}
use Rattle.sl_codes.specs.declared.faults.Cause.TheVariants.{RepeatedPool, BadNumber, BadQuota, BadKind, UnknownParent, ParentCycle, TooDeep, KindDiffers}
use Rattle.sl_codes.specs.declared.faults.Table.TheVariants.{Pools}
use Rattle.sl_codes.specs.declared.faults.TableFault.{TableFault}
use Rattle.sl_codes.specs.Codes.{has_code, number_of}
use Rattle.sl_codes.specs.Fields.{is_code, number_of_field, number_within}
use Rattle.sl_codes.specs.Faults.{Form, cause_if, code_cause, new_code_cause, first_fault, pass_fault}
use Rattle.sl_codes.specs.Records.{Record, field_of, codes_of}

-- the codes of pools and the pools, in order
pub record PoolList : Type 0 where
  pub codes : List (List ℕ)
  pub pools : List Pool

abbrev pub is_empty_field : List ℕ → Bool
is_empty_field field = bytes_eq field []

-- a quota that is no number is BadNumber, and one out of its range BadQuota
abbrev pub quota_cause : List ℕ → Option Cause
quota_cause field =
    option_or (cause_if (is_none (number_of_field field)) BadNumber)
    (cause_if (is_none (number_within 1 MAX_QUOTA field)) BadQuota)

-- a parent is empty, or a code; that there is such a pool is a matter of the whole file
abbrev pub parent_cause : List ℕ → Option Cause
parent_cause field = cond (is_empty_field field) None (code_cause field)

-- the kind is `score` or `merit`
abbrev pub is_kind : List ℕ → Bool
is_kind field = bytes_eq field (codes "score") || bytes_eq field (codes "merit")

abbrev pub kind_cause : List ℕ → Option Cause
kind_cause field = cause_if (not (is_kind field)) BadKind

-- the rule of a pool of this kind, where pools of kind `score` have the rule that is given
abbrev pub rule_of_kind : Rule → List ℕ → Rule
rule_of_kind rule field = cond (bytes_eq field (codes "merit")) Merit rule

-- `pool,quota,parent,kind`, of which the first is a code that stands in no earlier record
abbrev pub pool_fields_cause : List Record → Record → Option Cause
pool_fields_cause before row =
    option_or (new_code_cause RepeatedPool (codes_of before) (field_of row 0))
    (option_or (quota_cause (field_of row 1))
    (option_or (parent_cause (field_of row 2))
    (kind_cause (field_of row 3))))

abbrev pub pool_form : Form
pool_form = record {
  table = Pools;
  header = codes "pool" ∷ codes "quota" ∷ codes "parent" ∷ codes "kind" ∷ [];
  most = MAX_POOLS;
  fields_cause = pool_fields_cause;
}

-- the parent that a field names, among pools of these codes; an empty field names none
abbrev pub parent_named : List (List ℕ) → List ℕ → Option PoolId
parent_named pools field = cond (is_empty_field field) None (option_map (λ n. record { 0 = n }) (number_of pools field))

-- the pool of a record before its parent is known, where pools of kind `score` have this rule
abbrev pub pool_unlinked : Rule → Record → Pool
pool_unlinked rule row = record {
  quota = unwrap_or (number_of_field (field_of row 1)) 0;
  parent = None;
  rule = rule_of_kind rule (field_of row 3);
}

-- a pool with this parent
abbrev pub linked_to : Pool → Option PoolId → Pool
linked_to pool parent = record { quota = pool.quota; parent = parent; rule = pool.rule }

-- the pool of a record, among pools of these codes
abbrev pub pool_of : Rule → List (List ℕ) → Record → Pool
pool_of rule pools row = linked_to (pool_unlinked rule row) (parent_named pools (field_of row 2))

-- what the records after the header hold
abbrev pub pools_of : Rule → List Record → PoolList
pools_of rule rows = record { codes = codes_of rows; pools = map (pool_of rule (codes_of rows)) rows }

-- the fields that name the parents
abbrev pub parents_of : List Record → List (List ℕ)
parents_of rows = map (λ row. field_of row 2) rows

-- pools, each with the parent that its field names among pools of these codes
unfoldable pub linked : List (List ℕ) → List (List ℕ) → List Pool → List Pool
linked codes [] pools = pools
linked codes (field ∷ fields) [] = []
linked codes (field ∷ fields) (pool ∷ pools) =
    linked_to pool (parent_named codes field) ∷ linked codes fields pools

-- a field names a parent that is no pool of these codes
abbrev pub is_unknown_parent : List (List ℕ) → List ℕ → Bool
is_unknown_parent pools field = not (is_empty_field field) && not (has_code pools field)

-- the parent that a field names, or none where it names a pool that isn't there
abbrev pub FindsParent : List (List ℕ) → List ℕ → Option (Option PoolId) → Type 0
FindsParent codes field found =
    MatchOption found (is_unknown_parent codes field ≡ true)
    (λ parent. (is_unknown_parent codes field ≡ false) × (parent ≡ parent_named codes field))

-- the passes over pools whose parents are known: none is its own ancestor, none is too deep, none is badly nested
abbrev pub nesting_fault : List Pool → Option TableFault
nesting_fault pools =
    option_or (pass_fault Pools ParentCycle (first_in_ring (market_of_pools pools)))
    (option_or (pass_fault Pools TooDeep (first_too_deep (market_of_pools pools)))
    (pass_fault Pools KindDiffers (first_badly_nested (market_of_pools pools))))

-- the passes over pools of these codes, whose parents these fields name: each parent is known, and then the others
abbrev pub link_fault : List (List ℕ) → List (List ℕ) → List Pool → Option TableFault
link_fault codes fields pools =
    option_or (pass_fault Pools UnknownParent (position (is_unknown_parent codes) fields))
    (nesting_fault (linked codes fields pools))

-- the passes over the whole file
abbrev pub parents_fault : Rule → List Record → Option TableFault
parents_fault rule rows =
    option_or (pass_fault Pools UnknownParent (position (is_unknown_parent (codes_of rows)) (parents_of rows)))
    (nesting_fault (pools_of rule rows).pools)

-- the first fault of a pool table: record by record, and then the passes
abbrev pub first_pool_fault : Rule → List Record → Option TableFault
first_pool_fault rule records = option_or (first_fault pool_form records) (parents_fault rule (drop 1 records))

-- what a pool table that was read keeps: as many codes as pools, each of them a code, and pools that break no rule of
-- an instance
pub record IsPoolList (list : PoolList) : Type 0 where
  pub each : length list.codes ≡ length list.pools
  pub few : length list.pools ≤ MAX_POOLS
  pub coded : list_all is_code list.codes ≡ true
  pub quotas : Valid.quota_fault (market_of_pools list.pools) ≡ None
  pub nesting : Valid.nesting_fault (market_of_pools list.pools) ≡ None
