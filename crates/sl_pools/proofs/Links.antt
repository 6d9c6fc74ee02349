-- Pools that are given the parents that their fields name.
use Rattle.std.proofs.Common.{◌≡◌, ◌∙◌, ◌<◌, ◌≤◌, ◌+◌, ◌++◌, ℕ, zero, suc, List, [], ◌∷◌, map, take, drop, set, length, get_or, Option, Some, None, option_map, refl, sym, ap, arith, inl, inr, append_assoc, append-nil, add-one, drop-cons}
use Rattle.std.proofs.lemmas.Bool.{cases_Bool}
use Rattle.std.proofs.lemmas.List.{take_more_set, drop-set-lt, take_all, drop_all, length-map}
use Rattle.std.proofs.lemmas.List.Quantifiers.{position-Some}
use Rattle.sl_types.specs.declared.kinds.Pool.{Pool}
use Rattle.sl_types.specs.declared.kinds.PoolId.{PoolId}
use Rattle.sl_types.specs.declared.kinds.Rule.{Rule}
use Rattle.sl_types.specs.Market.{no_pool, parent_of, market_of_pools}
use Rattle.std.specs.Str.{bytes_eq}
use Rattle.sl_codes.specs.Codes.{number_of}
use Rattle.sl_codes.specs.Faults.{first_fault}
use Rattle.sl_codes.specs.Records.{Record, field_of, codes_of}
use Rattle.sl_pools.specs.Pools.{PoolList, linked, parent_named, is_empty_field, parents_of, pool_unlinked, pool_of, pools_of, pool_form, first_pool_fault, link_fault}

-- each parent is a pool of the list
abbrev pub AreLinked : List Pool → Type 0
AreLinked pools = (P : ℕ) (Q : PoolId) → parent_of (market_of_pools pools) P ≡ Some Q → Q.0 < length pools

-- a pool with this parent
abbrev pub with_parent : Pool → Option PoolId → Pool
with_parent pool parent = record { quota = pool.quota; parent = parent; rule = pool.rule }

-- one more pool has its parent
pub linked_step : (codes fields : List (List ℕ)) (initial pools : List Pool) (i : ℕ) (parent : Option PoolId) → i < length fields → i < length pools
    → linked codes fields initial ≡ take i pools ++ linked codes (drop i fields) (drop i pools)
    → parent ≡ parent_named codes (get_or fields i [])
    → linked codes fields initial ≡ take (i + 1) (set pools i (with_parent (get_or pools i no_pool) parent)) ++ linked codes (drop (i + 1) fields) (drop (i + 1) (set pools i (with_parent (get_or pools i no_pool) parent)))
unfolding linked
linked_step codes fields initial pools i parent inside within so_far named =
    let new = with_parent (get_or pools i no_pool) parent in
    let later : i < i + 1 = omega arith in
    let f : drop i fields ≡ get_or fields i [] ∷ drop (i + 1) fields = rw add-one (drop-cons fields i [] inside) in
    let p : drop i pools ≡ get_or pools i no_pool ∷ drop (i + 1) pools = rw add-one (drop-cons pools i no_pool within) in
    so_far ∙ rw (take_more_set pools i new within, drop-set-lt (i + 1) pools i new later, append_assoc (take i pools) (new ∷ []) (linked codes (drop (i + 1) fields) (drop (i + 1) pools)), f, p, named) refl

-- all pools have theirs
pub linked_all : (codes fields : List (List ℕ)) (initial pools : List Pool) (i : ℕ) → length fields ≤ i → length pools ≤ i
    → linked codes fields initial ≡ take i pools ++ linked codes (drop i fields) (drop i pools) → pools ≡ linked codes fields initial
unfolding linked
linked_all codes fields initial pools i past over so_far =
    sym (so_far ∙ rw (take_all i pools over, drop_all i fields past, drop_all i pools over) (append-nil pools))

-- the pools of records, before and after
pub linked_rows : (rule : Rule) (codes : List (List ℕ)) (rows : List Record) → linked codes (parents_of rows) (map (pool_unlinked rule) rows) ≡ map (pool_of rule codes) rows
unfolding linked
linked_rows rule codes [] = refl
linked_rows rule codes (row ∷ rows) = ap (λ pools. pool_of rule codes row ∷ pools) (linked_rows rule codes rows)

-- a parent that is named is one of the codes
numbered_within : (codes : List (List ℕ)) (field : List ℕ) (o : Option ℕ) (Q : PoolId) → number_of codes field ≡ o → option_map (λ n. record { 0 = n }) o ≡ Some Q → Q.0 < length codes
numbered_within codes field None Q is h = cc h
numbered_within codes field (Some n) Q is h = rw (← same (record { 0 = n }) Q h) (position-Some (bytes_eq field) codes n [] is).0
  where
    same : (P Q : PoolId) → Some P ≡ Some Q → P ≡ Q
    same P Q e = cc e

named_within : (codes : List (List ℕ)) (field : List ℕ) (Q : PoolId) → parent_named codes field ≡ Some Q → Q.0 < length codes
named_within codes field Q h = elim (cases_Bool (is_empty_field field)) [
  | inl e ↦ let none = rw e at h in cc none
  | inr e ↦ numbered_within codes field (number_of codes field) Q refl (rw e at h)
]

pub length-linked : (codes fields : List (List ℕ)) (pools : List Pool) → length (linked codes fields pools) ≡ length pools
unfolding linked
length-linked codes [] pools = refl
length-linked codes (field ∷ fields) [] = refl
length-linked codes (field ∷ fields) (pool ∷ pools) = ap suc (length-linked codes fields pools)

parents_within : (codes fields : List (List ℕ)) (pools : List Pool) (P : ℕ) (Q : PoolId) → length fields ≡ length pools
    → (get_or (linked codes fields pools) P no_pool).parent ≡ Some Q → Q.0 < length codes
unfolding linked
parents_within codes [] [] P Q each h = cc h
parents_within codes [] (pool ∷ pools) P Q each h = absurd (omega (arith, each))
parents_within codes (field ∷ fields) [] P Q each h = absurd (omega (arith, each))
parents_within codes (field ∷ fields) (pool ∷ pools) zero Q each h = named_within codes field Q h
parents_within codes (field ∷ fields) (pool ∷ pools) (suc P) Q each h = parents_within codes fields pools P Q (omega (arith, each)) h

-- the parents of linked pools are among them
pub are_linked : (codes fields : List (List ℕ)) (pools : List Pool) → length codes ≡ length pools → length fields ≡ length pools → AreLinked (linked codes fields pools)
are_linked codes fields pools coded each P Q h = rw (length-linked codes fields pools, ← coded) (parents_within codes fields pools P Q each h)

-- the first fault of a file whose records have none
pub whole_file : (rule : Rule) (records : List Record) (codes fields : List (List ℕ)) (pools : List Pool) → first_fault pool_form records ≡ None
    → codes ≡ codes_of (drop 1 records) → fields ≡ parents_of (drop 1 records) → pools ≡ map (pool_unlinked rule) (drop 1 records)
    → first_pool_fault rule records ≡ link_fault codes fields pools
whole_file rule records codes fields pools right coded named alone =
    rw (right, coded, named, alone, linked_rows rule (codes_of (drop 1 records)) (drop 1 records)) refl

-- linked pools are those of the records
pub linked_of : (rule : Rule) (rows : List Record) (codes fields : List (List ℕ)) (pools all : List Pool) → codes ≡ codes_of rows → fields ≡ parents_of rows → pools ≡ map (pool_unlinked rule) rows
    → all ≡ linked codes fields pools → all ≡ (pools_of rule rows).pools
linked_of rule rows codes fields pools all coded named alone is = is ∙ rw (coded, named, alone) (linked_rows rule (codes_of rows) rows)

pub same_list : (codes others : List (List ℕ)) (pools ones : List Pool) → codes ≡ others → pools ≡ ones → ◌≡◌ {A = PoolList} (record { codes = codes; pools = pools }) (record { codes = others; pools = ones })
same_list codes others pools ones c p = rw (c, p) refl

-- and their parents are among them
pub rows_linked : (rule : Rule) (rows : List Record) → AreLinked (pools_of rule rows).pools
rows_linked rule rows =
    let codes = codes_of rows in
    let alone : length (map (pool_unlinked rule) rows) ≡ length rows = length-map rows (pool_unlinked rule) in
    rw (← linked_rows rule codes rows) (are_linked codes (parents_of rows) (map (pool_unlinked rule) rows)
    (length-map rows (λ row. field_of row 0) ∙ sym alone) (length-map rows (λ row. field_of row 2) ∙ sym alone))
