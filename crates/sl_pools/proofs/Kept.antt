-- What a table that was read keeps.
use Rattle.std.proofs.Common.{◌≡◌, ◌∙◌, ◌<◌, ◌≤◌, ◌||◌, ◌&&◌, ℕ, Bool, true, false, not, cond, List, [], ◌∷◌, map, drop, length, get_or, nat_lt, nat_le, position, Option, Some, None, is_none, refl, sym, arith, inl, inr, true≢false}
use Rattle.std.specs.Prelude.{unwrap_or, option_and_then, All}
use Rattle.std.specs.List.{list_all, list_any, position_or_len, AllByRecursion}
use Rattle.std.proofs.lemmas.Bool.{cases_Bool, and_parts, leb-true, ltb-true, lt-ltb}
use Rattle.std.proofs.lemmas.List.Elements.{All-from_recursion}
use Rattle.std.specs.Str.{bytes_eq}
use Rattle.sl_codes.specs.Codes.{has_code}
use Rattle.sl_types.specs.declared.kinds.Pool.{Pool}
use Rattle.sl_types.specs.declared.kinds.PoolId.{PoolId}
use Rattle.sl_types.specs.declared.kinds.Rule.{Rule}
use Rattle.sl_types.specs.declared.kinds.TheConstants.{MAX_POOLS, MAX_PROGRAMMES, MAX_QUOTA}
use Rattle.sl_types.specs.Market.{market_of_pools, no_pool, pool_numbers}
use Rattle.sl_types.specs.Rules.{has_quota_out, has_parent_out, has_parent_where, is_no_pool, is_in_ring, is_too_deep, is_badly_nested}
use Rattle.sl_types.specs.Valid as Valid
use Rattle.sl_types.proofs.Lists.{none_first, first_none, place_lt}
use Rattle.sl_codes.specs.declared.faults.Cause.TheVariants.{BadQuota, UnknownParent, ParentCycle, TooDeep, KindDiffers, RepeatedPool, RepeatedProgramme, UnknownPool}
use Rattle.sl_codes.specs.declared.faults.Table.TheVariants.{Pools}
use Rattle.sl_codes.specs.Faults.{new_code_cause, name_cause, first_fault, pass_fault}
use Rattle.sl_codes.specs.Fields.{is_code, number_of_field, number_within}
use Rattle.sl_codes.specs.Records.{Record, field_of, codes_of}
use Rattle.sl_codes.proofs.FirstFault.{neither, unbroken, new_code_right, right_file, all_mapped}
use Rattle.sl_pools.specs.Pools.{pool_form, quota_cause, pool_unlinked, pool_of, pools_of, parents_fault, first_pool_fault, nesting_fault, IsPoolList, parents_of, is_unknown_parent}
use Rattle.sl_pools.specs.Programmes.{programme_form, programmes_of, pool_named, IsProgList}
use Rattle.sl_pools.proofs.Links.{AreLinked, rows_linked}
use Rattle.std.proofs.lemmas.List.{length-map}

-- a table of programmes
pub prog_list : (pools : List (List ℕ)) (records : List Record) → first_fault (programme_form pools) records ≡ None → length (drop 1 records) ≤ MAX_PROGRAMMES
    → IsProgList (programmes_of pools (drop 1 records))
prog_list pools records right few =
    let rows = drop 1 records in
    let coded = right_file (programme_form pools) (λ row. is_code (field_of row 0))
    (λ before row h. new_code_right RepeatedProgramme (codes_of before) (field_of row 0) (neither (new_code_cause RepeatedProgramme (codes_of before) (field_of row 0)) (name_cause UnknownPool pools (field_of row 1)) h).0) records right in
    record {
      each = length-map rows (λ row. field_of row 0) ∙ sym (length-map rows (pool_named pools));
      few = rw (length-map rows (pool_named pools)) few;
      coded = all_mapped (λ row. field_of row 0) is_code rows coded;
    }

-- a quota in which nothing is wrong is in its range
in_range : (n : ℕ) → (nat_le 1 n && nat_le n MAX_QUOTA) ≡ true → (nat_lt n 1 || nat_lt MAX_QUOTA n) ≡ false
in_range n h =
    let parts = and_parts (nat_le 1 n) (nat_le n MAX_QUOTA) h in
    let low = not_below n 1 (leb-true 1 n parts.0) in
    let high = not_below MAX_QUOTA n (leb-true n MAX_QUOTA parts.1) in
    rw (low, high) refl
  where
    not_below : (a b : ℕ) → b ≤ a → nat_lt a b ≡ false
    not_below a b le = elim (cases_Bool (nat_lt a b)) [
      | inl e ↦ let lt = ltb-true a b e in absurd (omega (arith, lt, le))
      | inr e ↦ e
    ]

ranged : (o : Option ℕ) → is_none (option_and_then (λ n. cond (nat_le 1 n && nat_le n MAX_QUOTA) (Some n) None) o) ≡ false
    → (nat_lt (unwrap_or o 0) 1 || nat_lt MAX_QUOTA (unwrap_or o 0)) ≡ false
ranged None h = absurd (true≢false h)
ranged (Some n) h = elim (cases_Bool (nat_le 1 n && nat_le n MAX_QUOTA)) [
  | inl e ↦ in_range n e
  | inr e ↦ let no = rw e at h in absurd (true≢false no)
]

quota_right : (rule : Rule) (row : Record) → quota_cause (field_of row 1) ≡ None → not (has_quota_out (pool_unlinked rule row)) ≡ true
quota_right rule row h =
    let out = ranged (number_of_field (field_of row 1)) (unbroken (is_none (number_within 1 MAX_QUOTA (field_of row 1))) BadQuota (neither _ _ h).1) in
    rw out refl

none_of : {A : Type 0} (p : A → Bool) (xs : List A) → list_all (λ x. not (p x)) xs ≡ true → list_any p xs ≡ false
none_of p [] h = refl
none_of p (x ∷ xs) h =
    let parts = and_parts (not (p x)) (list_all (λ x. not (p x)) xs) h in
    let here = not_true (p x) parts.0 in
    let later = none_of p xs parts.1 in
    rw (here, later) refl
  where
    not_true : (b : Bool) → not b ≡ true → b ≡ false
    not_true true e = sym e
    not_true false e = refl

pass_none : (cause : _) (found : Option ℕ) → pass_fault Pools cause found ≡ None → found ≡ None
pass_none cause None h = refl
pass_none cause (Some n) h = cc h

-- linked pools have no parent outside
linked_inside : (pools : List Pool) → AreLinked pools → position (has_parent_out (market_of_pools pools)) pools ≡ None
linked_inside pools linked = first_none (has_parent_out (market_of_pools pools)) pools no_pool (λ P lt. inside pools (get_or pools P no_pool).parent (λ Q e. linked P Q e))
  where
    inside : (pools : List Pool) (o : Option PoolId) → ((Q : PoolId) → o ≡ Some Q → Q.0 < length pools) → has_parent_where (is_no_pool (market_of_pools pools)) o ≡ false
    inside pools None within = refl
    inside pools (Some Q) within = elim (cases_Bool (nat_le (length pools) Q.0)) [
      | inl e ↦ let le = leb-true (length pools) Q.0 e in let lt = within Q refl in absurd (omega (arith, le, lt))
      | inr e ↦ e
    ]

-- pools that are linked and pass
nested_right : (pools : List Pool) → AreLinked pools → nesting_fault pools ≡ None
    → (Valid.nesting_fault (market_of_pools pools) ≡ None) × (position (is_badly_nested (market_of_pools pools)) pools ≡ None)
nested_right pools linked h =
    let first = neither (pass_fault Pools ParentCycle (position (is_in_ring (market_of_pools pools)) (pool_numbers (market_of_pools pools)))) _ h in
    let second = neither (pass_fault Pools TooDeep (position (is_too_deep (market_of_pools pools)) (pool_numbers (market_of_pools pools)))) _ first.1 in
    let ring = pass_none ParentCycle _ first.0 in
    let deep = pass_none TooDeep _ second.0 in
    let nested = pass_none KindDiffers (position (is_badly_nested (market_of_pools pools)) pools) second.1 in
    let out = linked_inside pools linked in
    (rw (out, ring, deep, nested) refl, nested)

-- a table of pools
pub pool_list : (rule : Rule) (records : List Record) → first_pool_fault rule records ≡ None → length (drop 1 records) ≤ MAX_POOLS
    → IsPoolList (pools_of rule (drop 1 records))
pool_list rule records right few =
    let rows = drop 1 records in
    let both = neither (first_fault pool_form records) (parents_fault rule rows) right in
    let passes = neither (pass_fault Pools UnknownParent (position (is_unknown_parent (codes_of rows)) (parents_of rows))) (nesting_fault (pools_of rule rows).pools) both.1 in
    let coded = right_file pool_form (λ row. is_code (field_of row 0))
    (λ before row h. new_code_right RepeatedPool (codes_of before) (field_of row 0) (neither (new_code_cause RepeatedPool (codes_of before) (field_of row 0)) _ h).0) records both.0 in
    let quotas = right_file pool_form (λ row. not (has_quota_out (pool_unlinked rule row)))
    (λ before row h. quota_right rule row (neither (quota_cause (field_of row 1)) _ (neither (new_code_cause RepeatedPool (codes_of before) (field_of row 0)) _ h).1).0) records both.0 in
    let ranged_all : list_any has_quota_out (pools_of rule rows).pools ≡ false = none_of has_quota_out (pools_of rule rows).pools (all_mapped (pool_of rule (codes_of rows)) (λ pool. not (has_quota_out pool)) rows quotas) in
    let none = none_first has_quota_out (pools_of rule rows).pools ranged_all in
    let nested = nested_right (pools_of rule rows).pools (rows_linked rule rows) passes.1 in
    record {
      each = length-map rows (λ row. field_of row 0) ∙ sym (length-map rows (pool_of rule (codes_of rows)));
      few = rw (length-map rows (pool_of rule (codes_of rows))) few;
      coded = all_mapped (λ row. field_of row 0) is_code rows coded;
      quotas = rw none refl;
      nesting = nested.0;
    }

-- the pool that is named is one of the pools
named_below : (pools : List (List ℕ)) (row : Record) → has_code pools (field_of row 1) ≡ true → nat_lt (pool_named pools row).0 (length pools) ≡ true
named_below pools row h =
    let lt = place_lt (bytes_eq (field_of row 1)) pools h in
    let less = lt-ltb (position_or_len (bytes_eq (field_of row 1)) pools) (length pools) lt in
    rw (less, less) refl

-- each programme's pool is one of the pools
pub progs_within : (pools : List (List ℕ)) (records : List Record) → first_fault (programme_form pools) records ≡ None
    → All (λ Q. Q.0 < length pools) (programmes_of pools (drop 1 records)).pools
progs_within pools records right =
    let known = right_file (programme_form pools) (λ row. nat_lt (pool_named pools row).0 (length pools))
    (λ before row h. named_below pools row (not_false (has_code pools (field_of row 1)) (unbroken (not (has_code pools (field_of row 1))) UnknownPool (neither (new_code_cause RepeatedProgramme (codes_of before) (field_of row 0)) _ h).1))) records right in
    All-from_recursion (λ Q. Q.0 < length pools) (map (pool_named pools) (drop 1 records)) (each pools (drop 1 records) known)
  where
    not_false : (b : Bool) → not b ≡ false → b ≡ true
    not_false true e = refl
    not_false false e = absurd (true≢false e)

    each : (pools : List (List ℕ)) (rows : List Record) → list_all (λ row. nat_lt (pool_named pools row).0 (length pools)) rows ≡ true → AllByRecursion (λ Q. Q.0 < length pools) (map (pool_named pools) rows)
    each pools [] h = tt
    each pools (row ∷ rows) h =
        let parts = and_parts (nat_lt (pool_named pools row).0 (length pools)) (list_all (λ row. nat_lt (pool_named pools row).0 (length pools)) rows) h in
        (ltb-true (pool_named pools row).0 (length pools) parts.0, each pools rows parts.1)
