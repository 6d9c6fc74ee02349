-- Which records of the application table are in conflict with an earlier one, where merits count in trees.
use Rattle.std.specs.Prelude.{ℕ, ◌<◌, ◌≤◌, ◌+◌, ◌*◌, Bool, ◌&&◌, not, List, [], map, take, get_or, length, nat_eq, position, option_map, Option}
use Rattle.std.specs.Option.{option_or}
use Rattle.std.specs.List.{list_any, range_with_len}
use Rattle.sl_types.specs.declared.kinds.Pool.{Pool}
use Rattle.sl_types.specs.declared.kinds.PoolId.{PoolId}
use Rattle.sl_types.specs.declared.kinds.TheConstants.{MAX_SCORE, MAX_APPLICANTS}
use Rattle.sl_types.specs.Market.{Market}
use Rattle.sl_types.specs.Rules.{share_tree}
use Rattle.sl_types.specs.Trees.{tree_at}
use Rattle.sl_codes.specs.declared.faults.Cause.TheVariants.{MeritDiffers, MeritTied}
use Rattle.sl_codes.specs.declared.faults.Table.TheVariants.{Applications}
use Rattle.sl_codes.specs.declared.faults.TableFault.{TableFault}
use Rattle.sl_codes.specs.Faults.{pass_fault}
use Rattle.sl_pools.specs.Pools.{PoolList}
use Rattle.sl_pools.specs.Programmes.{ProgList}
use Rattle.sl_choices.specs.Choices.{ChoiceList}
use Rattle.sl_choices.specs.declared.choices.ChoiceRow.{ChoiceRow}
use Rattle.sl_instance.specs.Assembly.{entry_of}
use Rattle.sl_instance.specs.Conflicts.{Keyed, first_conflict}
use Rattle.sl_instance.specs.declared.keyed.Agreement.{Agreement}
use Rattle.sl_instance.specs.declared.keyed.Agreement.TheVariants.{OneMerit, OneApplicant}

-- two rows are in one tree
abbrev pub in_one_tree : Market → ChoiceRow → ChoiceRow → Bool
in_one_tree market row other = share_tree market (entry_of row) (entry_of other)

-- the applicant has another merit in the tree of an earlier row
abbrev pub contradicts : Market → ChoiceRow → ChoiceRow → Bool
contradicts market row earlier =
    nat_eq row.app.0 earlier.app.0 && (in_one_tree market row earlier && not (nat_eq row.score earlier.score))

-- another applicant has the same merit in the tree of an earlier row
abbrev pub ties_with : Market → ChoiceRow → ChoiceRow → Bool
ties_with market row earlier =
    nat_eq row.score earlier.score && (in_one_tree market row earlier && not (nat_eq row.app.0 earlier.app.0))

abbrev pub no_row : ChoiceRow
no_row = record { app = record { 0 = 0 }; place = 0; prog = record { 0 = 0 }; score = 0 }

-- row k is set against an earlier one by a test
abbrev pub is_against_earlier : (ChoiceRow → ChoiceRow → Bool) → List ChoiceRow → ℕ → Bool
is_against_earlier test rows k = list_any (test (get_or rows k no_row)) (take k rows)

-- the first row that a test sets against an earlier one
abbrev pub first_against : (ChoiceRow → ChoiceRow → Bool) → List ChoiceRow → Option ℕ
first_against test rows = position (is_against_earlier test rows) (range_with_len 0 (length rows))

-- pools and programmes, without applicants
abbrev pub market_before : List Pool → List PoolId → Market
market_before pools progs = record { pools = pools; progs = progs; lists = [] }

-- the first fault of the passes over merits in trees: no applicant has two in one tree, and then no two applicants the
-- same
abbrev pub merit_fault : List Pool → List PoolId → List ChoiceRow → Option TableFault
merit_fault pools progs rows =
    option_or (pass_fault Applications MeritDiffers (first_against (contradicts (market_before pools progs)) rows))
    (pass_fault Applications MeritTied (first_against (ties_with (market_before pools progs)) rows))

-- that of three tables
abbrev pub merits_fault : PoolList → ProgList → ChoiceList → Option TableFault
merits_fault pools progs choices = merit_fault pools.pools progs.pools choices.rows

-- the tree and the applicant as one number, with the score
abbrev pub merit_row : List (Option ℕ) → ChoiceRow → Keyed
merit_row trees row =
    option_map (λ tree. (tree * MAX_APPLICANTS + row.app.0, row.score)) (tree_at trees (entry_of row))

-- the tree and the score as one number, with the applicant
abbrev pub tie_row : List (Option ℕ) → ChoiceRow → Keyed
tie_row trees row =
    option_map (λ tree. (tree * (MAX_SCORE + 1) + row.score, row.app.0)) (tree_at trees (entry_of row))

-- the key of a row and its value, where rows of one key must have one value
abbrev pub keyed_row : Agreement → List (Option ℕ) → ChoiceRow → Keyed
keyed_row OneMerit trees row = merit_row trees row
keyed_row OneApplicant trees row = tie_row trees row

-- the same by trees and keys
abbrev pub keyed_fault : List (Option ℕ) → List ChoiceRow → Option TableFault
keyed_fault trees rows =
    option_or (pass_fault Applications MeritDiffers (first_conflict (map (merit_row trees) rows)))
    (pass_fault Applications MeritTied (first_conflict (map (tie_row trees) rows)))

-- the numbers of a row are in their ranges, where there are so many programmes
pub record IsFine (progs : ℕ) (row : ChoiceRow) : Type 0 where
  pub app : row.app.0 < MAX_APPLICANTS
  pub prog : row.prog.0 < progs
  pub score : row.score ≤ MAX_SCORE
