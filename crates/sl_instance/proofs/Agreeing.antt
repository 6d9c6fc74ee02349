-- Where no row is in conflict with an earlier one, the lists of the applicants break no rule on merits.
use Rattle.std.proofs.Common.{◌≡◌, ◌≢◌, ◌<◌, ◌∙◌, ℕ, suc, Bool, true, false, ◌&&◌, not, List, [], ◌∷◌, take, length, length-take, get_or, nat_eq, Option, Some, None, refl, sym, ap, arith, inl, inr, eqb-true, eq-eqb}
use Rattle.std.specs.List.{list_any}
use Rattle.std.proofs.lemmas.Bool.{cases_Bool, cases_order}
use Rattle.std.proofs.lemmas.List.{get_or-take}
use Rattle.std.proofs.lemmas.List.Sorted.{list_any-IsPermutation}
use Rattle.sl_types.specs.declared.kinds.Entry.{Entry}
use Rattle.sl_types.specs.declared.kinds.Pool.{Pool}
use Rattle.sl_types.specs.declared.kinds.PoolId.{PoolId}
use Rattle.sl_types.specs.Market.{Market, pool_of, list_of}
use Rattle.sl_types.specs.Rules.{share_tree, has_two_merits, are_tied, is_tied_below}
use Rattle.sl_types.specs.Trees.{tree_of, passes}
use Rattle.sl_types.specs.Valid as Valid
use Rattle.sl_types.proofs.Lists.{none_below, none_of_any, none_first}
use Rattle.sl_types.proofs.Firsts.{no_number}
use Rattle.sl_types.proofs.Roots.{IsNested, share_is}
use Rattle.sl_types.proofs.Walks.{flip}
use Rattle.sl_choices.specs.declared.choices.ChoiceRow.{ChoiceRow}
use Rattle.sl_instance.specs.Assembly.{entry_of}
use Rattle.sl_instance.specs.Causes.{no_row, contradicts, ties_with, is_against_earlier, first_against, market_before}
use Rattle.sl_instance.specs.Lists.{IsSortedOf}
use Rattle.sl_instance.proofs.Chosen.{chosen}

pub and_false : (a : Bool) → (a && false) ≡ false
and_false true = refl
and_false false = refl

-- a test that fails at the choice of each row of the applicant
none_own : (p : Entry → Bool) (a : ℕ) (rows : List ChoiceRow) → ((k : ℕ) → k < length rows → (get_or rows k no_row).app.0 ≡ a → p (entry_of (get_or rows k no_row)) ≡ false)
    → list_any p (chosen a rows) ≡ false
none_own p a [] h = refl
none_own p a (row ∷ rows) h =
    let later = none_own p a rows (λ k lt own. h (suc k) (omega (arith, lt)) own) in
    elim (cases_Bool (nat_eq row.app.0 a)) [
      | inl own ↦ (let here = h 0 (omega arith) (eqb-true row.app.0 a own) in rw (own, here, later) refl)
      | inr other ↦ rw (other, later) refl
    ]

-- a row and an earlier one
pair : (test : ChoiceRow → ChoiceRow → Bool) (rows : List ChoiceRow) → first_against test rows ≡ None → (k j : ℕ) → j < k → k < length rows
    → test (get_or rows k no_row) (get_or rows j no_row) ≡ false
pair test rows never k j low lt =
    let all = none_of_any (test (get_or rows k no_row)) (take k rows) (none_below (is_against_earlier test rows) (length rows) k never lt) in
    let len = length-take k rows in
    sym (ap (test (get_or rows k no_row)) (get_or-take k rows j no_row low)) ∙ all j no_row (omega (arith, len, low, lt))

-- any two rows, by a test that may be turned round and fails of a row and itself
pairs : (test : ChoiceRow → ChoiceRow → Bool) → ((r s : ChoiceRow) → test r s ≡ test s r) → ((r : ChoiceRow) → test r r ≡ false) → (rows : List ChoiceRow) → first_against test rows ≡ None
    → (k j : ℕ) → k < length rows → j < length rows → test (get_or rows k no_row) (get_or rows j no_row) ≡ false
pairs test turned own rows never k j k_in j_in = elim (cases_order k j) [
  | inl same ↦ ap (λ (i : ℕ). test (get_or rows k no_row) (get_or rows i no_row)) (sym same) ∙ own (get_or rows k no_row)
  | inr other ↦ elim other [
    | inl low ↦ turned (get_or rows k no_row) (get_or rows j no_row) ∙ pair test rows never j k low j_in
    | inr high ↦ pair test rows never k j high k_in
  ]
]

-- two options of a tree, turned round
turned_trees : (o p : Option ℕ) → passes (λ t. passes (nat_eq t) p) o ≡ passes (λ t. passes (nat_eq t) o) p
turned_trees None None = refl
turned_trees None (Some u) = refl
turned_trees (Some t) None = refl
turned_trees (Some t) (Some u) = flip t u

module _ (pools : List Pool) (progs : List PoolId) (lists : List (List Entry)) (rows : List ChoiceRow) where
  abbrev bare : Market
  bare = market_before pools progs

  abbrev market : Market
  market = record { pools = pools; progs = progs; lists = lists }

  module _ (bare_ok : IsNested bare) (ok : IsNested market) where
    alike : (e f : Entry) → share_tree bare e f ≡ share_tree market e f
    alike e f = share_is bare bare_ok e f ∙ sym (share_is market ok e f)

    turned : (e f : Entry) → share_tree bare e f ≡ share_tree bare f e
    turned e f = share_is bare bare_ok e f ∙ turned_trees (tree_of pools (pool_of market e)) (tree_of pools (pool_of market f)) ∙ sym (share_is bare bare_ok f e)

    same_merits : (r s : ChoiceRow) → contradicts bare r s ≡ contradicts bare s r
    same_merits r s = let a = flip r.app.0 s.app.0 in let t = turned (entry_of r) (entry_of s) in let m = flip r.score s.score in rw (a, t, m) refl

    same_ties : (r s : ChoiceRow) → ties_with bare r s ≡ ties_with bare s r
    same_ties r s = let a = flip r.app.0 s.app.0 in let t = turned (entry_of r) (entry_of s) in let m = flip r.score s.score in rw (a, t, m) refl

    no_own_merit : (r : ChoiceRow) → contradicts bare r r ≡ false
    no_own_merit r =
        let m = eq-eqb r.score r.score refl in
        ap (λ b. nat_eq r.app.0 r.app.0 && (share_tree bare (entry_of r) (entry_of r) && not b)) m ∙ ap (λ b. nat_eq r.app.0 r.app.0 && b) (and_false (share_tree bare (entry_of r) (entry_of r)))
        ∙ and_false (nat_eq r.app.0 r.app.0)

    no_own_tie : (r : ChoiceRow) → ties_with bare r r ≡ false
    no_own_tie r =
        let a = eq-eqb r.app.0 r.app.0 refl in
        ap (λ b. nat_eq r.score r.score && (share_tree bare (entry_of r) (entry_of r) && not b)) a ∙ ap (λ b. nat_eq r.score r.score && b) (and_false (share_tree bare (entry_of r) (entry_of r)))
        ∙ and_false (nat_eq r.score r.score)

    module _ (differ : first_against (contradicts bare) rows ≡ None) (tied : first_against (ties_with bare) rows ≡ None)
        (sorted : (a : ℕ) → a < length lists → IsSortedOf (chosen a rows) (list_of market a)) where
      abbrev row : ℕ → ChoiceRow
      row k = get_or rows k no_row

      -- a test of the choices of an applicant, by the rows
      by_rows : (p : Entry → Bool) (a : ℕ) → a < length lists → ((k : ℕ) → k < length rows → (row k).app.0 ≡ a → p (entry_of (row k)) ≡ false) → list_any p (list_of market a) ≡ false
      by_rows p a lt h = sym (list_any-IsPermutation p _ _ (sorted a lt).same) ∙ none_own p a rows h

      one_merit : (a k j : ℕ) → k < length rows → j < length rows → (row k).app.0 ≡ a → (row j).app.0 ≡ a
          → (share_tree market (entry_of (row k)) (entry_of (row j)) && not (nat_eq (row k).score (row j).score)) ≡ false
      one_merit a k j k_in j_in own_k own_j =
          let same = eq-eqb (row k).app.0 (row j).app.0 (own_k ∙ sym own_j) in
          let apart = not (nat_eq (row k).score (row j).score) in
          ap (λ b. b && apart) (sym (alike (entry_of (row k)) (entry_of (row j))))
          ∙ sym (ap (λ b. b && (share_tree bare (entry_of (row k)) (entry_of (row j)) && apart)) same)
          ∙ pairs (contradicts bare) same_merits no_own_merit rows differ k j k_in j_in

      one_applicant : (a b k j : ℕ) → a ≢ b → k < length rows → j < length rows → (row k).app.0 ≡ a → (row j).app.0 ≡ b
          → (share_tree market (entry_of (row k)) (entry_of (row j)) && nat_eq (row k).score (row j).score) ≡ false
      one_applicant a b k j ne k_in j_in own_k own_j =
          let other : nat_eq (row k).app.0 (row j).app.0 ≡ false = elim (cases_Bool (nat_eq (row k).app.0 (row j).app.0)) [
            | inl same ↦ absurd (ne (sym own_k ∙ eqb-true (row k).app.0 (row j).app.0 same ∙ own_j))
            | inr other ↦ other
          ] in
          let none = pairs (ties_with bare) same_ties no_own_tie rows tied k j k_in j_in in
          ap (λ t. t && nat_eq (row k).score (row j).score) (sym (alike (entry_of (row k)) (entry_of (row j))))
          ∙ swapped (nat_eq (row k).score (row j).score) (share_tree bare (entry_of (row k)) (entry_of (row j))) (nat_eq (row k).app.0 (row j).app.0) other none
        where
          swapped : (s t a : Bool) → a ≡ false → (s && (t && not a)) ≡ false → (t && s) ≡ false
          swapped true true a e h = sym (ap not e) ∙ h
          swapped true false a e h = refl
          swapped false t a e h = and_false t

      no_two_merits : (a : ℕ) → a < length lists → has_two_merits market (list_of market a) ≡ false
      no_two_merits a lt =
          by_rows (λ e. list_any (λ f. share_tree market e f && not (nat_eq e.score f.score)) (list_of market a)) a lt
          (λ k k_in own_k. by_rows (λ f. share_tree market (entry_of (row k)) f && not (nat_eq (row k).score f.score)) a lt (λ j j_in own_j. one_merit a k j k_in j_in own_k own_j))

      no_tie : (a b : ℕ) → a ≢ b → a < length lists → b < length lists → are_tied market (list_of market a) (list_of market b) ≡ false
      no_tie a b ne a_in b_in =
          by_rows (λ e. list_any (λ f. share_tree market e f && nat_eq e.score f.score) (list_of market b)) a a_in
          (λ k k_in own_k. by_rows (λ f. share_tree market (entry_of (row k)) f && nat_eq (row k).score f.score) b b_in (λ j j_in own_j. one_applicant a b k j ne k_in j_in own_k own_j))

      by_place : (p : List Entry → Bool) (ls : List (List Entry)) → ((k : ℕ) → k < length ls → p (get_or ls k []) ≡ false) → list_any p ls ≡ false
      by_place p [] h = refl
      by_place p (l ∷ ls) h = let here = h 0 (omega arith) in let later = by_place p ls (λ k lt. h (suc k) (omega (arith, lt))) in rw (here, later) refl

      no_tie_below : (a : ℕ) → a < length lists → is_tied_below market a ≡ false
      no_tie_below a lt = by_place (are_tied market (list_of market a)) (take a lists)
          (λ b b_in.
          let len = length-take a lists in
          let low : b < a = omega (arith, len, b_in) in
          let ne : a ≢ b = omega (arith, low) in
          ap (are_tied market (list_of market a)) (get_or-take a lists b [] low) ∙ no_tie a b ne lt (omega (arith, low, lt)))

      pub no_merit_fault : Valid.merit_fault market ≡ None
      no_merit_fault =
          let two = none_first (has_two_merits market) lists (by_place (has_two_merits market) lists no_two_merits) in
          let ties = no_number (is_tied_below market) (length lists) no_tie_below in
          rw (two, ties) refl
