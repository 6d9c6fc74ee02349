-- The merits of a generated round break no rule of merits: an applicant has one merit, and no other applicant has it.
use Rattle.std.proofs.Common.{◌≡◌, ◌∙◌, ◌<◌, ◌≤◌, ◌+◌, ◌*◌, ◌/◌, ◌&&◌, ◌⊎◌, ℕ, Bool, true, false, not, List, [], map, take, position, nat_eq, Option, Some, None, refl, sym, ap, subst, arith, inl, inr, eq-eqb}
use Rattle.std.specs.Prelude.{cond}
use Rattle.std.specs.List.{list_any, range_with_len}
use Rattle.std.proofs.lemmas.Bool.{cases_Bool}
use Rattle.std.proofs.lemmas.Nat.{mod_below}
use Rattle.std.proofs.lemmas.List.FromFn.{length-map-range_with_len, get_or-map-range_with_len, take-map-range_with_len}
use Rattle.sl_types.specs.declared.kinds.Entry.{Entry}
use Rattle.sl_types.specs.declared.kinds.PoolId.{PoolId}
use Rattle.sl_types.specs.declared.kinds.TheConstants.{MAX_APPLICANTS, MAX_DEPTH}
use Rattle.sl_types.specs.Market.{Market, rule_of, pool_of, list_of}
use Rattle.sl_types.specs.Rules.{is_merit, share_tree, has_two_merits, are_tied, is_tied_below}
use Rattle.sl_types.specs.Trees.{tree_of, outermost, passes}
use Rattle.sl_types.specs.Valid.{merit_fault, first_two_merits, first_tied}
use Rattle.sl_types.proofs.Roots.{IsNested, nested, share_is}
use Rattle.sl_gen.specs.Pools.{rule_of_pool, pool_of_prog}
use Rattle.sl_gen.specs.Choices.{choice_count, prog_chosen, merit_of, choice_numbered, choices_of}
use Rattle.sl_gen.proofs.Failing.{not_equal, and_false}
use Rattle.sl_gen.proofs.Numbered.{none_numbered, no_number, any_numbered}
use Rattle.sl_gen.proofs.Once.{merit_once}
use Rattle.sl_gen.proofs.Groups.{market, rule_is, no_nesting_fault}

no_other : (o : Option ℕ) → passes (λ t. passes (nat_eq t) None) o ≡ false
no_other None = refl
no_other (Some t) = refl

-- choices share a tree in merit pools alone
module _ (round : Market) (ok : IsNested round) (e f : Entry) where
  abbrev tree : ℕ → Option ℕ
  tree P = tree_of round.pools P

  not_first : is_merit (rule_of round (pool_of round e)) ≡ false → share_tree round e f ≡ false
  not_first h =
      let none : tree (pool_of round e) ≡ None = ap (λ b. cond b (Some (outermost round.pools MAX_DEPTH (pool_of round e))) None) h in
      share_is round ok e f ∙ ap (λ o. passes (λ t. passes (nat_eq t) (tree (pool_of round f))) o) none

  not_second : is_merit (rule_of round (pool_of round f)) ≡ false → share_tree round e f ≡ false
  not_second h =
      let none : tree (pool_of round f) ≡ None = ap (λ b. cond b (Some (outermost round.pools MAX_DEPTH (pool_of round f))) None) h in
      share_is round ok e f ∙ ap (λ p. passes (λ t. passes (nat_eq t) p) (tree (pool_of round e))) none ∙ no_other (tree (pool_of round e))

-- a round of so many groups of pools, and so many applicants
module _ (groups n : ℕ) (some : 0 < groups) (few : n ≤ MAX_APPLICANTS) where
  abbrev progs : List PoolId
  progs = map pool_of_prog (range_with_len 0 (16 * groups))

  abbrev lists : List (List Entry)
  lists = map (choices_of (16 * groups)) (range_with_len 0 n)

  abbrev round : Market
  round = market groups progs lists

  ok : IsNested round
  ok = nested round (no_nesting_fault groups progs lists)

  abbrev choice : ℕ → ℕ → Entry
  choice a j = choice_numbered (16 * groups) a j

  in_merit : ℕ → ℕ → Bool
  in_merit a j = is_merit (rule_of_pool (pool_of_prog (prog_chosen (16 * groups) a j)).0)

  rule_there : (a j : ℕ) → is_merit (rule_of round (pool_of round (choice a j))) ≡ in_merit a j
  unfolding in_merit
  rule_there a j =
      let g : ℕ = prog_chosen (16 * groups) a j in
      let below : g < 16 * groups = mod_below (a * 37 + j * 113 + (a / 400) * 16) (16 * groups) (omega (arith, some)) in
      let pool : pool_of round (choice a j) ≡ g / 2 = ap (λ (Q : PoolId). Q.0) (get_or-map-range_with_len pool_of_prog 0 (16 * groups) g g (record { 0 = 0 }) below (omega arith)) in
      ap (λ (P : ℕ). is_merit (rule_of round P)) pool
      ∙ ap is_merit (rule_is groups progs lists (g / 2) (omega (arith, below)))

  score_there : (a j : ℕ) → in_merit a j ≡ true → (choice a j).score ≡ merit_of a
  unfolding in_merit
  score_there a j h = rw h refl

  -- two choices share no tree, or their scores are the merits of their applicants
  either : (a b i j : ℕ) → (share_tree round (choice a i) (choice b j) ≡ false) ⊎ (((choice a i).score ≡ merit_of a) × ((choice b j).score ≡ merit_of b))
  either a b i j = elim (cases_Bool (in_merit a i)) [
    | inr none ↦ inl (not_first round ok (choice a i) (choice b j) (rule_there a i ∙ none))
    | inl here ↦ elim (cases_Bool (in_merit b j)) [
      | inr none ↦ inl (not_second round ok (choice a i) (choice b j) (rule_there b j ∙ none))
      | inl there ↦ inr (score_there a i here, score_there b j there)
    ]
  ]

  alike : (a i j : ℕ) → (share_tree round (choice a i) (choice a j) && not (nat_eq (choice a i).score (choice a j).score)) ≡ false
  alike a i j = elim (either a a i j) [
    | inl apart ↦ rw apart refl
    | inr both ↦ let same = eq-eqb (choice a i).score (choice a j).score (both.0 ∙ sym both.1) in ap (λ b. share_tree round (choice a i) (choice a j) && not b) same ∙ and_false (share_tree round (choice a i) (choice a j))
  ]

  untied : (a b i j : ℕ) → a < n → b < a → (share_tree round (choice a i) (choice b j) && nat_eq (choice a i).score (choice b j).score) ≡ false
  untied a b i j lt lower = elim (either a b i j) [
    | inl apart ↦ rw apart refl
    | inr both ↦
        let differ = not_equal (choice a i).score (choice b j).score (λ same. let one = merit_once a b (omega (arith, lt, few)) (omega (arith, lt, few, lower)) (sym both.0 ∙ same ∙ both.1) in omega (arith, one, lower)) in
        ap (λ t. share_tree round (choice a i) (choice b j) && t) differ ∙ and_false (share_tree round (choice a i) (choice b j))
  ]

  none_differ : first_two_merits round ≡ None
  none_differ = none_numbered (has_two_merits round) (choices_of (16 * groups)) n (λ a lt.
      any_numbered (λ e. list_any (λ f. share_tree round e f && not (nat_eq e.score f.score)) (choices_of (16 * groups) a)) (choice_numbered (16 * groups) a) (choice_count a) (λ i i_in.
      any_numbered (λ f. share_tree round (choice a i) f && not (nat_eq (choice a i).score f.score)) (choice_numbered (16 * groups) a) (choice_count a) (λ j j_in. alike a i j)))

  not_tied : (a b : ℕ) → a < n → b < a → are_tied round (choices_of (16 * groups) a) (choices_of (16 * groups) b) ≡ false
  not_tied a b lt lower =
      any_numbered (λ e. list_any (λ f. share_tree round e f && nat_eq e.score f.score) (choices_of (16 * groups) b)) (choice_numbered (16 * groups) a) (choice_count a) (λ i i_in.
      any_numbered (λ f. share_tree round (choice a i) f && nat_eq (choice a i).score f.score) (choice_numbered (16 * groups) b) (choice_count b) (λ j j_in. untied a b i j lt lower))

  none_tied : first_tied round ≡ None
  none_tied = subst (λ (m : ℕ). position (is_tied_below round) (range_with_len 0 m) ≡ None) (sym (length-map-range_with_len (choices_of (16 * groups)) 0 n)) (no_number (is_tied_below round) n (λ a lt.
      let mine : list_of round a ≡ choices_of (16 * groups) a = get_or-map-range_with_len (choices_of (16 * groups)) 0 n a a [] lt (omega arith) in
      let before : take a round.lists ≡ map (choices_of (16 * groups)) (range_with_len 0 a) = take-map-range_with_len (choices_of (16 * groups)) 0 n a (omega (arith, lt)) in
      ap (λ (xs : List (List Entry)). list_any (are_tied round (list_of round a)) xs) before
      ∙ ap (λ (es : List Entry). list_any (are_tied round es) (map (choices_of (16 * groups)) (range_with_len 0 a))) mine
      ∙ any_numbered (are_tied round (choices_of (16 * groups) a)) (choices_of (16 * groups)) a (λ b lower. not_tied a b lt lower)))

  pub no_merit_fault : merit_fault round ≡ None
  no_merit_fault = rw (none_differ, none_tied) refl
