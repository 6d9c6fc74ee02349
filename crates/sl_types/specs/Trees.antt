-- Trees of merit pools, known by their outermost pool, and what an applicant's score in a tree is known by.
use Rattle.std.specs.Prelude.{◌≡◌, ◌||◌, ℕ, zero, suc, ◌+◌, ◌*◌, Bool, false, ◌&&◌, not, List, [], get_or, take, nat_eq, option_map, cond, Option, Some, None}
use Rattle.std.specs.Prelude.{length, position}
use Rattle.std.specs.List.{list_any, range_with_len}
use Rattle.std.specs.Option.{option_or}
use Rattle.sl_types.specs.declared.kinds.Pool.{Pool}
use Rattle.sl_types.specs.declared.kinds.PoolId.{PoolId}
use Rattle.sl_types.specs.declared.kinds.Entry.{Entry}
use Rattle.sl_types.specs.declared.kinds.TheConstants.{MAX_SCORE, MAX_DEPTH}
use Rattle.sl_types.specs.Market.{no_pool}
use Rattle.sl_types.specs.Rules.{is_merit}
use Rattle.sl_types.specs.Valid.{at_applicant}
use Rattle.sl_types.specs.declared.unfit.Unfit.{Unfit}
use Rattle.sl_types.specs.declared.unfit.Unfit.TheVariants.{MeritDiffers, MeritTied}

-- the parent's number, or one's own where there is no parent
abbrev pub parent_or : ℕ → Option PoolId → ℕ
parent_or P None = P
parent_or P (Some Q) = Q.0

-- the pool that n steps outwards from P end at
unfoldable pub outermost : List Pool → ℕ → ℕ → ℕ
outermost pools zero P = P
outermost pools (suc n) P = let Q = outermost pools n P in parent_or Q (get_or pools Q no_pool).parent

-- the tree of a merit pool, known by its outermost pool
abbrev pub tree_of : List Pool → ℕ → Option ℕ
tree_of pools P = cond (is_merit (get_or pools P no_pool).rule) (Some (outermost pools MAX_DEPTH P)) None

-- the tree of a choice, where trees has that of each programme
abbrev pub tree_at : List (Option ℕ) → Entry → Option ℕ
tree_at trees e = get_or trees e.prog.0 None

-- whether there is a number, and it passes
abbrev pub passes : (ℕ → Bool) → Option ℕ → Bool
passes p None = false
passes p (Some n) = p n

-- the choice is in this tree with another score
abbrev pub is_other : List (Option ℕ) → ℕ → ℕ → Entry → Bool
is_other trees tree score f = passes (nat_eq tree) (tree_at trees f) && not (nat_eq score f.score)

-- one of the choices is in the tree of this one with another score
abbrev pub is_contradicted : List (Option ℕ) → List Entry → Entry → Bool
is_contradicted trees choices e = passes (λ tree. list_any (is_other trees tree e.score) choices) (tree_at trees e)

-- two choices in one tree have different scores
abbrev pub has_two_scores : List (Option ℕ) → List Entry → Bool
has_two_scores trees choices = list_any (is_contradicted trees choices) choices

-- one number for a tree and a score in it
abbrev pub merit_key : List (Option ℕ) → Entry → Option ℕ
merit_key trees e = option_map (λ tree. tree * (MAX_SCORE + 1) + e.score) (tree_at trees e)

-- a choice of the list has this key
abbrev pub has_key : List (Option ℕ) → ℕ → List Entry → Bool
has_key trees key choices = list_any (λ f. passes (nat_eq key) (merit_key trees f)) choices

-- a choice of applicant a has the key of one of lower number
abbrev pub is_key_taken : List (Option ℕ) → List (List Entry) → ℕ → Bool
is_key_taken trees lists a =
    list_any (λ e. passes (λ key. list_any (has_key trees key) (take a lists)) (merit_key trees e)) (get_or lists a [])

-- the keys that are taken are those that were, and those of a list
abbrev pub TakesKeys : List (Option ℕ) → List Entry → (ℕ → Bool) → (ℕ → Bool) → Type 0
TakesKeys trees choices old new = (key : ℕ) → new key ≡ (old key || has_key trees key choices)

-- the first of the rules on merits that fails, by trees and keys
abbrev pub merit_fault_by : List (Option ℕ) → List (List Entry) → Option Unfit
merit_fault_by trees lists =
    option_or (at_applicant MeritDiffers (position (has_two_scores trees) lists))
    (at_applicant MeritTied (position (is_key_taken trees lists) (range_with_len 0 (length lists))))
