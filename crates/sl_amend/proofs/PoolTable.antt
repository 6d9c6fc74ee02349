-- A pool table that was printed has no fault, and holds its pools.
use Rattle.std.proofs.Common.{◌≡◌, ◌⊎◌, ◌∙◌, ◌<◌, ◌≤◌, ◌+◌, ◌++◌, ◌&&◌, ℕ, suc, Bool, true, false, not, List, [], ◌∷◌, length, map, get_or, Option, Some, None, refl, sym, ap, arith, inl, inr, append_assoc, length-append}
use Rattle.std.specs.Prelude.{zip, IfSome}
use Rattle.std.specs.List.{list_all, list_any, IsDistinct, AllByRecursion}
use Rattle.std.specs.Str.{bytes_eq}
use Rattle.std.specs.Fmt.{decimal}
use Rattle.std.proofs.lemmas.Bool.{and_parts, le-leb}
use Rattle.std.proofs.lemmas.List.{map-append}
use Rattle.sl_types.specs.declared.kinds.Pool.{Pool}
use Rattle.sl_types.specs.declared.kinds.PoolId.{PoolId}
use Rattle.sl_types.specs.declared.kinds.Rule.{Rule}
use Rattle.sl_types.specs.declared.kinds.Rule.TheVariants.{H, L, Merit}
use Rattle.sl_types.specs.declared.kinds.TheConstants.{MAX_POOLS, MAX_QUOTA}
use Rattle.sl_types.specs.Market.{market_of_pools, no_pool}
use Rattle.sl_types.specs.Valid as Valid
use Rattle.sl_types.specs.Valid.{IsValid, at_pool, first_in_ring, first_too_deep, first_badly_nested, first_parent_out}
use Rattle.sl_types.specs.declared.unfit.Unfit.TheVariants.{ParentRange, ParentRing, TooDeep, RuleNesting}
use Rattle.sl_types.proofs.Alike.{nesting_alike}
use Rattle.sl_types.proofs.Faultless.{faultless, quota_low, quota_high, parent_in, no_first}
use Rattle.sl_types.proofs.Faultless as Unfit
use Rattle.sl_types.proofs.Lists.{none_first}
use Rattle.sl_codes.specs.Codes.{has_code}
use Rattle.sl_codes.specs.Fields.{is_code}
use Rattle.sl_codes.specs.Faults.{record_cause, first_fault_after}
use Rattle.sl_codes.specs.Records.{Record, codes_of, field_of}
use Rattle.sl_codes.proofs.FirstFault.{record_cause-fields}
use Rattle.sl_pools.specs.Pools.{pool_form, pool_fields_cause, quota_cause, parent_cause, kind_cause, rule_of_kind, is_empty_field, parent_named, pool_of, pools_of, parents_of, is_unknown_parent, nesting_fault, first_pool_fault}
use Rattle.sl_instance.specs.NamedMarket.{NamedMarket, IsNamed}
use Rattle.sl_amend.specs.Tables.{kind_word, parent_code, pool_record, pool_header, pool_records}
use Rattle.sl_amend.specs.TableLaws.{IsTabular, pools_in}
use Rattle.sl_amend.proofs.CodesApart.{apart, code_there, coded_at, no_code_cause, not_empty}
use Rattle.sl_amend.proofs.PrintedNumbers.{decimal_read, code_found}

-- the quota of a pool is in its range, its parent is one of so many, and it has this rule or is a merit pool
record IsFine (rule : Rule) (count : ℕ) (pool : Pool) : Type 0 where
  low : 1 ≤ pool.quota
  high : pool.quota ≤ MAX_QUOTA
  parent : IfSome pool.parent (λ Q. Q.0 < count)
  own : (pool.rule ≡ rule) ⊎ (pool.rule ≡ Merit)

no_quota_cause : (quota : ℕ) → 1 ≤ quota → quota ≤ MAX_QUOTA → quota_cause (decimal quota) ≡ None
no_quota_cause quota low high =
    let read = decimal_read quota (omega (arith, high)) in
    let a = le-leb 1 quota low in
    let b = le-leb quota MAX_QUOTA high in
    rw (read, a, b) refl

no_parent_cause : (codes : List (List ℕ)) (parent : Option PoolId) → list_all is_code codes ≡ true → IfSome parent (λ Q. Q.0 < length codes)
    → parent_cause (parent_code codes parent) ≡ None
no_parent_cause codes None h within = refl
no_parent_cause codes (Some Q) h within =
    let coded = coded_at codes Q.0 h within in
    rw (not_empty (get_or codes Q.0 []) coded, no_code_cause (get_or codes Q.0 []) coded) refl

no_kind_cause : (rule : Rule) → kind_cause (kind_word rule) ≡ None
no_kind_cause H = refl
no_kind_cause L = refl
no_kind_cause Merit = refl

module _ (rule : Rule) (all : List (List ℕ)) (coded : list_all is_code all ≡ true) (once : IsDistinct bytes_eq all) where
  -- what is wrong with the record of a pool
  no_fields_cause : (before : List Record) (code : List ℕ) (pool : Pool) → IsFine rule (length all) pool → is_code code ≡ true
      → has_code (codes_of before) code ≡ false → pool_fields_cause before (pool_record all code pool) ≡ None
  no_fields_cause before code pool fine is new =
      rw (no_code_cause code is, new, no_quota_cause pool.quota fine.low fine.high, no_parent_cause all pool.parent coded fine.parent, no_kind_cause pool.rule) refl

  rows_right : (before : List Record) (codes : List (List ℕ)) (pools : List Pool) → AllByRecursion (IsFine rule (length all)) pools → list_all is_code codes ≡ true
      → IsDistinct bytes_eq (codes_of before ++ codes) → length before + length codes ≤ MAX_POOLS
      → first_fault_after pool_form before (map (λ p. pool_record all p.0 p.1) (zip codes pools)) ≡ None
  unfolding first_fault_after
  rows_right before [] pools fine are new few = refl
  rows_right before (code ∷ codes) [] fine are new few = refl
  rows_right before (code ∷ codes) (pool ∷ pools) fine are new few =
      let row = pool_record all code pool in
      let parts = and_parts (is_code code) (list_all is_code codes) are in
      let here : record_cause pool_form before row ≡ None =
      record_cause-fields pool_form before row refl (omega (arith, few)) ∙ no_fields_cause before code pool fine.0 parts.0 (apart (codes_of before) code codes new) in
      let more : codes_of (before ++ row ∷ []) ++ codes ≡ codes_of before ++ code ∷ codes =
      ap (λ (cs : List (List ℕ)). cs ++ codes) (map-append (λ (r : Record). field_of r 0) before (row ∷ [])) ∙ append_assoc (codes_of before) (code ∷ []) codes in
      let longer = length-append before (row ∷ []) in
      let later = rows_right (before ++ row ∷ []) codes pools fine.1 parts.1 (rw more new) (omega (arith, few, longer)) in
      rw (here, later) refl

  -- the codes and the pools of the records
  rule_again : (own : Rule) → (own ≡ rule) ⊎ (own ≡ Merit) → rule_of_kind rule (kind_word own) ≡ own
  rule_again H (inl e) = sym e
  rule_again H (inr e) = cc e
  rule_again L (inl e) = sym e
  rule_again L (inr e) = cc e
  rule_again Merit h = refl

  parent_again : (parent : Option PoolId) → IfSome parent (λ Q. Q.0 < length all) → parent_named all (parent_code all parent) ≡ parent
  parent_again None within = refl
  parent_again (Some Q) within =
      let empty = not_empty (get_or all Q.0 []) (coded_at all Q.0 coded within) in
      let found = code_found all Q.0 once within in
      rw (empty, found) refl

  pool_again : (code : List ℕ) (pool : Pool) → IsFine rule (length all) pool → pool_of rule all (pool_record all code pool) ≡ pool
  pool_again code pool fine =
      let high = fine.high in
      let read = decimal_read pool.quota (omega (arith, high)) in
      rw (read, rule_again pool.rule fine.own, parent_again pool.parent fine.parent) refl

  pools_again : (codes : List (List ℕ)) (pools : List Pool) → AllByRecursion (IsFine rule (length all)) pools → length codes ≡ length pools
      → map (pool_of rule all) (map (λ p. pool_record all p.0 p.1) (zip codes pools)) ≡ pools
  pools_again [] [] fine each = refl
  pools_again [] (pool ∷ pools) fine each = absurd (omega (arith, each))
  pools_again (code ∷ codes) [] fine each = absurd (omega (arith, each))
  pools_again (code ∷ codes) (pool ∷ pools) fine each =
      rw (pool_again code pool fine.0, pools_again codes pools fine.1 (omega (arith, each))) refl

  codes_again : (codes : List (List ℕ)) (pools : List Pool) → length codes ≡ length pools → codes_of (map (λ p. pool_record all p.0 p.1) (zip codes pools)) ≡ codes
  codes_again [] [] each = refl
  codes_again [] (pool ∷ pools) each = absurd (omega (arith, each))
  codes_again (code ∷ codes) [] each = absurd (omega (arith, each))
  codes_again (code ∷ codes) (pool ∷ pools) each = ap (λ cs. code ∷ cs) (codes_again codes pools (omega (arith, each)))

  -- each parent is known
  known_parent : (parent : Option PoolId) → IfSome parent (λ Q. Q.0 < length all) → is_unknown_parent all (parent_code all parent) ≡ false
  known_parent None within = refl
  known_parent (Some Q) within = rw (code_there all Q.0 within) (and_false (not (is_empty_field (get_or all Q.0 []))))
    where
      and_false : (b : Bool) → (b && false) ≡ false
      and_false true = refl
      and_false false = refl

  known_parents : (codes : List (List ℕ)) (pools : List Pool) → AllByRecursion (IsFine rule (length all)) pools
      → list_any (is_unknown_parent all) (parents_of (map (λ p. pool_record all p.0 p.1) (zip codes pools))) ≡ false
  known_parents [] pools fine = refl
  known_parents (code ∷ codes) [] fine = refl
  known_parents (code ∷ codes) (pool ∷ pools) fine = rw (known_parent pool.parent fine.0.parent, known_parents codes pools fine.1) refl

-- the pools of a valid instance
module _ (rule : Rule) (n : NamedMarket) (named : IsNamed n) (ok : IsValid n.market) (tabular : IsTabular rule n.market) where
  by_number : (P : Pool → Type 0) (pools : List Pool) → ((k : ℕ) → k < length pools → P (get_or pools k no_pool)) → AllByRecursion P pools
  by_number P [] h = tt
  by_number P (pool ∷ pools) h = (h 0 (omega arith), by_number P pools (λ k lt. h (suc k) (omega (arith, lt))))

  if_some : (count : ℕ) (o : Option PoolId) → ((Q : PoolId) → o ≡ Some Q → Q.0 < count) → IfSome o (λ Q. Q.0 < count)
  if_some count None h = tt
  if_some count (Some Q) h = h Q refl

  all_fine : AllByRecursion (IsFine rule (length n.pool_codes)) n.market.pools
  all_fine =
      let faults = faultless n.market ok in
      by_number (IsFine rule (length n.pool_codes)) n.market.pools (λ k lt. record {
        low = quota_low n.market faults k lt;
        high = quota_high n.market faults k lt;
        parent = if_some (length n.pool_codes) (get_or n.market.pools k no_pool).parent (λ Q e. (let within = parent_in n.market faults k Q e in omega (arith, within, named.each_pool)));
        own = tabular.rules k no_pool lt;
      })

  nested : nesting_fault n.market.pools ≡ None
  nested =
      let sizes = Unfit.neither (Valid.size_fault n.market) _ ok in
      let quotas = Unfit.neither (Valid.quota_fault n.market) _ sizes.1 in
      let all = nesting_alike n.market.pools n.market.progs n.market.lists ∙ (Unfit.neither (Valid.nesting_fault n.market) _ quotas.1).0 in
      let alone = market_of_pools n.market.pools in
      let a = Unfit.neither (at_pool ParentRange (first_parent_out alone)) _ all in
      let b = Unfit.neither (at_pool ParentRing (first_in_ring alone)) _ a.1 in
      let c = Unfit.neither (at_pool TooDeep (first_too_deep alone)) (at_pool RuleNesting (first_badly_nested alone)) b.1 in
      let ring = no_first (λ i. ParentRing (record { 0 = i })) (first_in_ring alone) b.0 in
      let deep = no_first (λ i. TooDeep (record { 0 = i })) (first_too_deep alone) c.0 in
      let badly = no_first (λ i. RuleNesting (record { 0 = i })) (first_badly_nested alone) c.1 in
      rw (ring, deep, badly) refl

  pub pools_hold : pools_of rule (pool_records n) ≡ pools_in n
  pools_hold =
      let codes = codes_again rule n.pool_codes named.pools.coded named.pools.once n.pool_codes n.market.pools named.each_pool in
      let pools = pools_again rule n.pool_codes named.pools.coded named.pools.once n.pool_codes n.market.pools all_fine named.each_pool in
      rw (codes, pools) refl

  pub pools_right : first_pool_fault rule (pool_header ∷ pool_records n) ≡ None
  pools_right =
      let few = (faultless n.market ok).few_pools in
      let rows = rows_right rule n.pool_codes named.pools.coded named.pools.once [] n.pool_codes n.market.pools all_fine named.pools.coded named.pools.once (omega (arith, few, named.each_pool)) in
      let codes = codes_again rule n.pool_codes named.pools.coded named.pools.once n.pool_codes n.market.pools named.each_pool in
      let known = none_first (is_unknown_parent n.pool_codes) (parents_of (pool_records n)) (known_parents rule n.pool_codes named.pools.coded named.pools.once n.pool_codes n.market.pools all_fine) in
      let pools = pools_again rule n.pool_codes named.pools.coded named.pools.once n.pool_codes n.market.pools all_fine named.each_pool in
      rw (rows, codes, known, pools, nested) refl
