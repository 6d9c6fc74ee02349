-- The instance to which a file without a fault leads breaks no rule of an instance.
use Rattle.std.proofs.Common.{◌≡◌, ◌∙◌, ◌<◌, ◌≤◌, ℕ, suc, Bool, true, false, nat_le, nat_lt, List, [], ◌∷◌, length, map, get_or, position, drop, Option, Some, None, refl, sym, ap, subst, arith, inl, inr}
use Rattle.std.specs.Prelude.{sum_by}
use Rattle.std.specs.List.{list_all, list_any}
use Rattle.std.proofs.lemmas.Bool.{cases_Bool, and_parts, ltb-true, leb-true}
use Rattle.std.proofs.lemmas.List.{length-map}
use Rattle.sl_types.specs.declared.kinds.Entry.{Entry}
use Rattle.sl_types.specs.declared.kinds.PoolId.{PoolId}
use Rattle.sl_types.specs.declared.kinds.TheConstants.{MAX_POOLS, MAX_PROGRAMMES, MAX_APPLICANTS, MAX_CHOICES, MAX_LIST, MAX_PLACE, MAX_SCORE}
use Rattle.sl_types.specs.Market.{Market}
use Rattle.sl_types.specs.Rules.{is_no_pool, is_too_long, has_prog_out, is_misplaced, is_out_of_order, has_score_out, has_prog_twice, has_two_merits, is_tied_below}
use Rattle.sl_types.specs.Trees.{tree_of}
use Rattle.sl_types.specs.Valid.{IsValid, size_fault, programme_fault, list_fault, merit_fault, first_in_no_pool, applicant_numbers}
use Rattle.sl_types.proofs.Alike.{nesting_alike}
use Rattle.sl_types.proofs.Faultless.{valid_by, faultless}
use Rattle.sl_types.proofs.Lists.{none_first}
use Rattle.sl_codes.specs.declared.faults.Cause.{Cause}
use Rattle.sl_codes.specs.declared.faults.Cause.TheVariants.{MeritDiffers, MeritTied}
use Rattle.sl_codes.specs.declared.faults.Table.TheVariants.{Amendments}
use Rattle.sl_codes.specs.Faults.{cause_if, pass_fault, first_fault_after, header_fault}
use Rattle.sl_codes.specs.Records.{Record}
use Rattle.sl_codes.proofs.FirstFault.{neither, unbroken}
use Rattle.sl_instance.specs.NamedMarket.{NamedMarket, IsNamed}
use Rattle.sl_amend.specs.declared.register.Register.{Register}
use Rattle.sl_amend.specs.Amended.{IsAmended}
use Rattle.sl_amend.specs.Applied.{draft_after}
use Rattle.sl_amend.specs.Conflicts.{conflict_cause, has_differing, has_tied}
use Rattle.sl_amend.specs.DraftMarket.{DraftMarket, opening, amended, marked}
use Rattle.sl_amend.specs.Files.{passes_fault, amendment_form, IsLedTo}
use Rattle.sl_amend.specs.Register.{draft_of, IsRegister}
use Rattle.sl_amend.specs.Roll.{is_choice, is_list, lists_of}
use Rattle.sl_amend.proofs.Course.{IsCourse, course}
use Rattle.sl_amend.proofs.Fine.{fine_parts}
use Rattle.sl_amend.proofs.Marked.{length_marked, all_marked, sum_marked, place, at_place, place_rises}
use Rattle.sl_amend.proofs.Named.{fitted}
use Rattle.sl_amend.proofs.OneChange.{IsFree, free_of, none_found}
use Rattle.sl_amend.proofs.OneTree.{IsFitted, two, ties}
use Rattle.sl_amend.proofs.Quotas.{shape, parents, rules_of, trees_same}
use Rattle.sl_amend.proofs.Unconflicted.{unconflicted}
use Rattle.sl_amend.proofs.ValidLists.{valid_list, valid_nested, valid_free}

-- the lists of those who are present are free of conflicts where all are
free_marked : (trees : List (Option ℕ)) (marks : List Bool) (lists : List (List Entry)) → length marks ≡ length lists → IsFree trees lists → IsFree trees (marked marks lists)
free_marked trees marks lists each free = record {
  single = λ b. ap (two trees) (at_place marks lists b [] each) ∙ free.single (place marks b);
  apart = λ a b less.
      let here : get_or (marked marks lists) a [] ≡ get_or lists (place marks a) [] = at_place marks lists a [] each in
      let there : get_or (marked marks lists) b [] ≡ get_or lists (place marks b) [] = at_place marks lists b [] each in
      ap (λ (es : List Entry). ties trees es (get_or (marked marks lists) b [])) here ∙ ap (ties trees (get_or lists (place marks a) [])) there
      ∙ free.apart (place marks a) (place marks b) (place_rises marks b a less);
}

not_below : (a b : ℕ) → b ≤ a → nat_lt a b ≡ false
not_below a b le = elim (cases_Bool (nat_lt a b)) [
  | inl e ↦ let lt = ltb-true a b e in absurd (omega (arith, lt, le))
  | inr e ↦ e
]

not_up_to : (a b : ℕ) → b < a → nat_le a b ≡ false
not_up_to a b lt = elim (cases_Bool (nat_le a b)) [
  | inl e ↦ let le = leb-true a b e in absurd (omega (arith, lt, le))
  | inr e ↦ e
]

-- a test that fails at what another passes
any_not : {A : Type 0} (p q : A → Bool) → ((x : A) → q x ≡ true → p x ≡ false) → (xs : List A) → list_all q xs ≡ true → list_any p xs ≡ false
any_not p q fails [] h = refl
any_not p q fails (x ∷ xs) h =
    let parts = and_parts (q x) (list_all q xs) h in
    let here = fails x parts.0 in
    let rest = any_not p q fails xs parts.1 in
    rw (here, rest) refl

-- what is said of a choice
module _ (progs : ℕ) where
  prog_in : (e : Entry) → is_choice progs e ≡ true → nat_le progs e.prog.0 ≡ false
  prog_in e h = not_up_to progs e.prog.0 (ltb-true e.prog.0 progs (and_parts (nat_lt e.prog.0 progs) _ h).0)

  place_in : (e : Entry) → is_choice progs e ≡ true → is_misplaced e ≡ false
  place_in e h =
      let rest = and_parts (nat_le 1 e.place) _ (and_parts (nat_lt e.prog.0 progs) _ h).1 in
      let top = and_parts (nat_le e.place MAX_PLACE) (nat_le e.score MAX_SCORE) rest.1 in
      let low = not_below e.place 1 (leb-true 1 e.place rest.0) in
      let high = not_below MAX_PLACE e.place (leb-true e.place MAX_PLACE top.0) in
      rw (low, high) refl

  score_in : (e : Entry) → is_choice progs e ≡ true → nat_lt MAX_SCORE e.score ≡ false
  score_in e h =
      let rest = and_parts (nat_le 1 e.place) _ (and_parts (nat_lt e.prog.0 progs) _ h).1 in
      not_below MAX_SCORE e.score (leb-true e.score MAX_SCORE (and_parts (nat_le e.place MAX_PLACE) (nat_le e.score MAX_SCORE) rest.1).1)

-- lists in order break no rule on lists
no_list_fault : (market : Market) → list_all (is_list (length market.progs)) market.lists ≡ true → list_fault market ≡ None
no_list_fault market h =
    let n = length market.progs in
    let long = none_first is_too_long market.lists (any_not is_too_long (is_list n) (λ es k. not_below MAX_LIST (length es) (fine_parts n es k).short) market.lists h) in
    let out = none_first (has_prog_out market) market.lists (any_not (has_prog_out market) (is_list n) (λ es k. any_not _ (is_choice n) (prog_in n) es (fine_parts n es k).each) market.lists h) in
    let order = none_first is_out_of_order market.lists
    (any_not is_out_of_order (is_list n) (λ es k. let a = any_not is_misplaced (is_choice n) (place_in n) es (fine_parts n es k).each in let b = (fine_parts n es k).rises in rw (a, b) refl) market.lists h) in
    let score = none_first has_score_out market.lists (any_not has_score_out (is_list n) (λ es k. any_not _ (is_choice n) (score_in n) es (fine_parts n es k).each) market.lists h) in
    let twice = none_first has_prog_twice market.lists (any_not has_prog_twice (is_list n) (λ es k. (fine_parts n es k).once) market.lists h) in
    rw (long, out, order, score, twice) refl

no_merit_fault : (market : Market) → conflict_cause market ≡ None → merit_fault market ≡ None
no_merit_fault market h =
    let parts = neither (cause_if (has_differing market) MeritDiffers) (cause_if (has_tied market) MeritTied) h in
    let differing = none_first (has_two_merits market) market.lists (unbroken (has_differing market) MeritDiffers parts.0) in
    let tied = none_first (is_tied_below market) (applicant_numbers market) (unbroken (has_tied market) MeritTied parts.1) in
    rw (differing, tied) refl

no_pass : (cause : Cause) (first : Option ℕ) → pass_fault Amendments cause first ≡ None → first ≡ None
no_pass cause None h = refl
no_pass cause (Some k) h = cc h

-- a register to whose draft a file without a fault led
module _ (named : NamedMarket) (valid : IsValid named.market) (coded : IsNamed named) (register : Register) (h : IsRegister register) (led : IsLedTo named (draft_of register)) where
  abbrev draft : DraftMarket
  draft = draft_of register

  abbrev rows : List Record
  rows = drop 1 led.0

  first_parts : (first_fault_after (amendment_form named) [] rows ≡ None) × (passes_fault (draft_after (opening named) rows) rows ≡ None)
  first_parts =
      let parts = neither _ _ led.1.right in
      ((neither (header_fault Amendments (amendment_form named).header led.0) _ parts.0).1, parts.1)

  pub way : IsCourse named rows draft
  way = subst (IsCourse named rows) (sym led.1.leads) (course named rows coded.each_applicant first_parts.0)

  pool_count : length draft.named.market.pools ≡ length named.market.pools
  pool_count = sym (length-map draft.named.market.pools shape) ∙ ap (λ xs. length xs) way.shapes ∙ length-map named.market.pools shape

  -- quotas, applicants and lists alone may differ
  pub is_amended : IsAmended named.market (amended draft).market
  is_amended = record {
    progs = way.progs;
    each = pool_count;
    parents = λ P lt. parents named.market.pools draft.named.market.pools way.shapes pool_count P;
    rules = λ P lt. rules_of named.market.pools draft.named.market.pools way.shapes pool_count P;
  }

  abbrev trees : List (Option ℕ)
  trees = register.roll.merits.trees.items

  tree_count : length trees ≡ length named.market.progs
  tree_count = ap (λ (ts : List (Option ℕ)). length ts) h.trees ∙ length-map register.progs.items (λ (Q : PoolId). tree_of register.pools.items Q.0) ∙ ap (λ (gs : List PoolId). length gs) way.progs

  old_trees : trees ≡ map (λ (Q : PoolId). tree_of named.market.pools Q.0) named.market.progs
  old_trees = h.trees ∙ trees_same named.market.pools register.pools.items way.shapes pool_count register.progs.items ∙ ap (λ (gs : List PoolId). map (λ (Q : PoolId). tree_of named.market.pools Q.0) gs) way.progs

  all_lists : (p : List Entry → Bool) (lists : List (List Entry)) → ((a : ℕ) → a < length lists → p (get_or lists a []) ≡ true) → list_all p lists ≡ true
  all_lists p [] k = refl
  all_lists p (x ∷ xs) k =
      let here : p x ≡ true = k 0 (omega arith) in
      let rest = all_lists p xs (λ a lt. k (suc a) (omega (arith, lt))) in
      rw (here, rest) refl

  old_fit : IsFitted named.market trees
  old_fit = record {
    parents = sym (nesting_alike named.market.pools named.market.progs named.market.lists) ∙ valid_nested named.market valid;
    trees_are = old_trees;
    in_order = all_lists (is_list (length trees)) named.market.lists (λ a lt. ap (λ (n : ℕ). is_list n (get_or named.market.lists a [])) tree_count ∙ valid_list named.market a valid lt);
  }

  passed : passes_fault draft rows ≡ None
  passed = subst (λ (d : DraftMarket). passes_fault d rows ≡ None) (sym led.1.leads) first_parts.1

  free : IsFree trees draft.named.market.lists
  free =
      let parts = neither _ _ passed in
      unconflicted draft rows trees named.market.lists (fitted register h) way.each way.traced (no_pass MeritDiffers _ parts.0) (no_pass MeritTied _ parts.1)
      (free_of named.market trees old_fit (valid_free named.market valid))

  abbrev market : Market
  market = (amended draft).market

  still_fit : IsFitted market trees
  still_fit = record {
    parents = sym (nesting_alike register.pools.items register.progs.items market.lists) ∙ h.nested;
    trees_are = h.trees;
    in_order = all_marked (is_list (length trees)) draft.present (lists_of register.roll) h.roll.in_order;
  }

  no_conflict : conflict_cause market ≡ None
  no_conflict = none_found market trees still_fit (free_marked trees draft.present (lists_of register.roll) h.roll.each free)

  -- so many of each kind
  pub present_few : length market.lists ≤ MAX_APPLICANTS
  present_few = omega (arith, length_marked draft.present (lists_of register.roll) h.roll.each, h.roll.present_count, h.roll.few_applicants)

  no_size : size_fault market ≡ None
  no_size =
      let old = faultless named.market valid in
      let a = not_below MAX_POOLS (length market.pools) (omega (arith, pool_count, old.few_pools)) in
      let b = not_below MAX_PROGRAMMES (length market.progs) (omega (arith, ap (λ (gs : List PoolId). length gs) way.progs, old.few_programmes)) in
      let d = not_below MAX_APPLICANTS (length market.lists) present_few in
      let e = not_below MAX_CHOICES (sum_by length market.lists) (omega (arith, sum_marked length draft.present (lists_of register.roll), h.roll.choice_count, h.roll.few_applications)) in
      rw (a, b, d, e) refl

  no_programme : programme_fault market ≡ None
  no_programme =
      let old = (faultless named.market valid).pools in
      let same : first_in_no_pool market ≡ first_in_no_pool named.market =
      ap (λ (n : ℕ). position (λ (Q : PoolId). nat_le n Q.0) market.progs) pool_count ∙ ap (λ (gs : List PoolId). position (is_no_pool named.market) gs) way.progs in
      let none : first_in_no_pool market ≡ None = same ∙ old in
      rw none refl

  -- it breaks no rule
  pub still_valid : IsValid market
  still_valid =
      let size : length trees ≡ length market.progs = tree_count ∙ ap (λ (gs : List PoolId). length gs) (sym way.progs) in
      valid_by market no_size h.quotas (sym (nesting_alike register.pools.items register.progs.items market.lists) ∙ h.nested) no_programme
      (no_list_fault market (ap (λ (n : ℕ). list_all (is_list n) market.lists) (sym size) ∙ still_fit.in_order)) (no_merit_fault market no_conflict)
