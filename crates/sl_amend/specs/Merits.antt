-- How many choices hold each merit of each tree; a tree and a merit in it are known by one number.
use Rattle.std.specs.Prelude.{◌≡◌, ℕ, ◌&&◌, ◌==◌, not, Bool, List, sum_by, count_by, nat_lt, unwrap_or, if◌then◌else◌, Option}
use Rattle.std.specs.Option.{option_or}
use Rattle.std.specs.List.{list_all, list_any}
use Rattle.std.specs.HashMap.{get, HashMap}
use Rattle.std.specs.declared.hash.FoldHasher.{FoldHasher}
use Rattle.std.specs.declared.hash.BuildHasherDefault.{BuildHasherDefault}
use Rattle.std.specs.Prelude.{nat_eq}
use Rattle.sl_types.specs.declared.kinds.Entry.{Entry}
use Rattle.sl_types.specs.Trees.{tree_at, merit_key, passes}
use Rattle.sl_codes.specs.declared.faults.Cause.{Cause}
use Rattle.sl_codes.specs.declared.faults.Cause.TheVariants.{MeritDiffers, MeritTied}
use Rattle.sl_codes.specs.Faults.{cause_if}
use Rattle.sl_amend.specs.declared.merits.Merits.{Merits}

-- how many are held, by number
abbrev pub Counts : Type 0
Counts = HashMap ℕ ℕ (BuildHasherDefault FoldHasher)

abbrev pub held_in : Counts → ℕ → ℕ
held_in held key = unwrap_or (get nat_eq held key) 0

-- so many are held at a number, and at each other as many as before
abbrev pub ChangesOnly : Counts → Counts → ℕ → ℕ → Type 0
ChangesOnly old new key count = (k : ℕ) → held_in new k ≡ (if key == k then count else held_in old k)

abbrev pub held_at : Merits → ℕ → ℕ
held_at merits key = held_in merits.held key

-- a choice is in a tree, and has this number there
abbrev pub has_key : List (Option ℕ) → ℕ → Entry → Bool
has_key trees key e = passes (nat_eq key) (merit_key trees e)

-- one, where a choice has the number
abbrev pub count_at : List (Option ℕ) → ℕ → Entry → ℕ
count_at trees key e = if has_key trees key e then 1 else 0

-- how many of these choices have the number
abbrev pub count_in : List (Option ℕ) → ℕ → List Entry → ℕ
count_in trees key choices = count_by (has_key trees key) choices

-- how many choices of all these lists have it
abbrev pub count_over : List (Option ℕ) → ℕ → List (List Entry) → ℕ
count_over trees key lists = sum_by (count_in trees key) lists

-- merits hold so many of each number
abbrev pub Holds : Merits → (ℕ → ℕ) → Type 0
Holds merits count = (key : ℕ) → held_at merits key ≡ count key

-- the same programmes are in the same trees
abbrev pub SameTrees : Merits → Merits → Type 0
SameTrees old new = new.trees.items ≡ old.trees.items

-- two choices are in one tree
abbrev pub in_one_tree : List (Option ℕ) → Entry → Entry → Bool
in_one_tree trees e f = passes (λ tree. passes (nat_eq tree) (tree_at trees f)) (tree_at trees e)

-- one of these choices is in the tree of a choice and has another score
abbrev pub is_contradicted : List (Option ℕ) → List Entry → Entry → Bool
is_contradicted trees choices e = list_any (λ f. in_one_tree trees e f && not (e.score == f.score)) choices

-- more choices have the number of a choice than those of one applicant
abbrev pub is_held_beyond : Merits → List Entry → Entry → Bool
is_held_beyond merits choices e =
    passes (λ key. nat_lt (count_in merits.trees.items key choices) (held_at merits key))
    (merit_key merits.trees.items e)

-- no choice of these, which are those of one applicant, is in a conflict
abbrev pub is_in_none : Merits → List Entry → Bool
is_in_none merits choices =
    list_all (λ e. not (is_contradicted merits.trees.items choices e) && not (is_held_beyond merits choices e)) choices

-- one of these choices, of another programme, is in the tree of a choice and has another score
abbrev pub is_contradicted_beside : List (Option ℕ) → List Entry → Entry → Bool
is_contradicted_beside trees choices e =
    list_any (λ f. not (f.prog.0 == e.prog.0) && (in_one_tree trees e f && not (e.score == f.score))) choices

-- in what conflict a choice is, beside those of its applicant of other programmes and those of other applicants
abbrev pub conflict_found : Merits → List Entry → Entry → Option Cause
conflict_found merits choices e =
    option_or (cause_if (is_contradicted_beside merits.trees.items choices e) MeritDiffers)
    (cause_if (is_held_beyond merits choices e) MeritTied)
