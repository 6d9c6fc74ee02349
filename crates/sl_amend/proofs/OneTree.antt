-- Choices in one tree: by pools and by the trees of programmes.
use Rattle.std.proofs.Common.{◌≡◌, ◌∙◌, ◌≤◌, ◌<◌, ◌+◌, ◌*◌, ◌&&◌, not, ℕ, Bool, true, false, nat_eq, nat_lt, nat_le, List, map, length, get_or, Option, Some, None, refl, sym, ap, arith, eqb-true, eq-eqb}
use Rattle.std.specs.Prelude.{option_map}
use Rattle.std.specs.List.{list_all, list_any}
use Rattle.std.proofs.lemmas.Bool.{and_parts, and_from, ltb-true, leb-true}
use Rattle.std.proofs.lemmas.List.{get_or-map}
use Rattle.std.proofs.lemmas.List.Sums.{AllPass-from_list_all}
use Rattle.sl_types.specs.declared.kinds.Entry.{Entry}
use Rattle.sl_types.specs.declared.kinds.PoolId.{PoolId}
use Rattle.sl_types.specs.declared.kinds.TheConstants.{MAX_PLACE, MAX_SCORE}
use Rattle.sl_types.specs.Market.{Market, pool_of}
use Rattle.sl_types.specs.Rules.{share_tree, has_two_merits, are_tied}
use Rattle.sl_types.specs.Trees.{tree_of, tree_at, merit_key, passes}
use Rattle.sl_types.specs.Valid.{nesting_fault}
use Rattle.sl_types.proofs.Roots.{nested, share_is}
use Rattle.sl_types.proofs.Ties.{any_within}
use Rattle.sl_amend.specs.Merits.{in_one_tree, has_key}
use Rattle.sl_amend.specs.Roll.{is_choice, is_list}

-- an instance whose lists are in order, with the trees of its programmes
pub record IsFitted (market : Market) (trees : List (Option ℕ)) : Type 0 where
  pub parents : nesting_fault market ≡ None
  pub trees_are : trees ≡ map (λ Q. tree_of market.pools Q.0) market.progs
  pub in_order : list_all (is_list (length trees)) market.lists ≡ true

-- two choices of one applicant in conflict, and two of two
abbrev pub differ : List (Option ℕ) → Entry → Entry → Bool
differ trees e f = in_one_tree trees e f && not (nat_eq e.score f.score)

abbrev pub tie : List (Option ℕ) → Entry → Entry → Bool
tie trees e f = in_one_tree trees e f && nat_eq e.score f.score

abbrev pub two : List (Option ℕ) → List Entry → Bool
two trees choices = list_any (λ e. list_any (differ trees e) choices) choices

abbrev pub ties : List (Option ℕ) → List Entry → List Entry → Bool
ties trees choices others = list_any (λ e. list_any (tie trees e) others) choices

-- the numbers of a choice in order
pub known : (progs : ℕ) (e : Entry) → is_choice progs e ≡ true → e.prog.0 < progs
known progs e h = ltb-true e.prog.0 progs (and_parts (nat_lt e.prog.0 progs) _ h).0

pub scored_low : (progs : ℕ) (e : Entry) → is_choice progs e ≡ true → e.score ≤ MAX_SCORE
scored_low progs e h =
    let a = and_parts (nat_lt e.prog.0 progs) _ h in
    let b = and_parts (nat_le 1 e.place) _ a.1 in
    leb-true e.score MAX_SCORE (and_parts (nat_le e.place MAX_PLACE) (nat_le e.score MAX_SCORE) b.1).1

module _ (market : Market) (trees : List (Option ℕ)) (fit : IsFitted market trees) where
  tree_is : (e : Entry) → e.prog.0 < length trees → tree_at trees e ≡ tree_of market.pools (pool_of market e)
  tree_is e lt =
      let count : length trees ≡ length market.progs = ap (λ (ts : List (Option ℕ)). length ts) fit.trees_are ∙ Rattle.std.proofs.lemmas.List.length-map market.progs (λ Q. tree_of market.pools Q.0) in
      ap (λ (ts : List (Option ℕ)). get_or ts e.prog.0 None) fit.trees_are
      ∙ get_or-map (λ (Q : PoolId). tree_of market.pools Q.0) market.progs e.prog.0 (record { 0 = 0 }) None (omega (arith, lt, count))

  pub shares : (e f : Entry) → is_choice (length trees) e ≡ true → is_choice (length trees) f ≡ true → share_tree market e f ≡ in_one_tree trees e f
  shares e f fine_e fine_f =
      let at_e = tree_is e (known (length trees) e fine_e) in
      let at_f = tree_is f (known (length trees) f fine_f) in
      share_is market (nested market fit.parents) e f
      ∙ sym (ap (λ o. passes (λ t. passes (nat_eq t) (tree_at trees f)) o) at_e ∙ ap (λ p. passes (λ t. passes (nat_eq t) p) (tree_of market.pools (pool_of market e))) at_f)

  -- a search among choices in order
  among : (p : Bool → Entry → Bool) (e : Entry) (choices : List Entry) → is_choice (length trees) e ≡ true → list_all (is_choice (length trees)) choices ≡ true
      → list_any (λ f. p (share_tree market e f) f) choices ≡ list_any (λ f. p (in_one_tree trees e f) f) choices
  among p e choices fine_e fine =
      any_within (λ f. p (share_tree market e f) f) (λ f. p (in_one_tree trees e f) f) choices
      (λ k d lt. let f : Entry = get_or choices k d in ap (λ b. p b f) (shares e f fine_e (AllPass-from_list_all (is_choice (length trees)) choices fine k d lt)))

  pub differ_is : (e : Entry) (choices : List Entry) → is_choice (length trees) e ≡ true → list_all (is_choice (length trees)) choices ≡ true
      → list_any (λ f. share_tree market e f && not (nat_eq e.score f.score)) choices ≡ list_any (differ trees e) choices
  differ_is e choices fine_e fine = among (λ b f. b && not (nat_eq e.score f.score)) e choices fine_e fine

  pub tie_is : (e : Entry) (choices : List Entry) → is_choice (length trees) e ≡ true → list_all (is_choice (length trees)) choices ≡ true
      → list_any (λ f. share_tree market e f && nat_eq e.score f.score) choices ≡ list_any (tie trees e) choices
  tie_is e choices fine_e fine = among (λ b f. b && nat_eq e.score f.score) e choices fine_e fine

  pub two_is : (choices : List Entry) → list_all (is_choice (length trees)) choices ≡ true → has_two_merits market choices ≡ two trees choices
  two_is choices fine =
      any_within (λ e. list_any (λ f. share_tree market e f && not (nat_eq e.score f.score)) choices) (λ e. list_any (differ trees e) choices) choices
      (λ k d lt. differ_is (get_or choices k d) choices (AllPass-from_list_all (is_choice (length trees)) choices fine k d lt) fine)

  pub ties_is : (choices others : List Entry) → list_all (is_choice (length trees)) choices ≡ true → list_all (is_choice (length trees)) others ≡ true → are_tied market choices others ≡ ties trees choices others
  ties_is choices others fine fine_others =
      any_within (λ e. list_any (λ f. share_tree market e f && nat_eq e.score f.score) others) (λ e. list_any (tie trees e) others) choices
      (λ k d lt. tie_is (get_or choices k d) others (AllPass-from_list_all (is_choice (length trees)) choices fine k d lt) fine_others)

-- two tests of which each implies the other
pub same_test : (a b : Bool) → (a ≡ true → b ≡ true) → (b ≡ true → a ≡ true) → a ≡ b
same_test true b f g = sym (f refl)
same_test false true f g = g refl
same_test false false f g = refl

same_number : (t u s r : ℕ) → s ≤ MAX_SCORE → r ≤ MAX_SCORE → nat_eq (t * (MAX_SCORE + 1) + s) (u * (MAX_SCORE + 1) + r) ≡ (nat_eq t u && nat_eq s r)
same_number t u s r low_s low_r = same_test _ _
    (λ h. let e = eqb-true (t * (MAX_SCORE + 1) + s) (u * (MAX_SCORE + 1) + r) h in and_from (nat_eq t u) (nat_eq s r) (eq-eqb t u (omega (arith, e, low_s, low_r))) (eq-eqb s r (omega (arith, e, low_s, low_r))))
    (λ h. let parts = and_parts (nat_eq t u) (nat_eq s r) h in let a = eqb-true t u parts.0 in let b = eqb-true s r parts.1 in eq-eqb (t * (MAX_SCORE + 1) + s) (u * (MAX_SCORE + 1) + r) (omega (arith, a, b)))

keys_agree : (o p : Option ℕ) (s r : ℕ) → s ≤ MAX_SCORE → r ≤ MAX_SCORE
    → passes (λ k. passes (nat_eq k) (option_map (λ tree. tree * (MAX_SCORE + 1) + r) p)) (option_map (λ tree. tree * (MAX_SCORE + 1) + s) o) ≡ (passes (λ t. passes (nat_eq t) p) o && nat_eq s r)
keys_agree None p s r low_s low_r = refl
keys_agree (Some t) None s r low_s low_r = refl
keys_agree (Some t) (Some u) s r low_s low_r = same_number t u s r low_s low_r

-- one number is one tree and one score
pub key_is : (trees : List (Option ℕ)) (e f : Entry) → e.score ≤ MAX_SCORE → f.score ≤ MAX_SCORE → passes (λ key. has_key trees key f) (merit_key trees e) ≡ tie trees e f
key_is trees e f low_e low_f = keys_agree (tree_at trees e) (tree_at trees f) e.score f.score low_e low_f

pub turned : (a b : ℕ) → nat_eq a b ≡ nat_eq b a
turned a b = same_test (nat_eq a b) (nat_eq b a) (λ h. eq-eqb b a (sym (eqb-true a b h))) (λ h. eq-eqb a b (sym (eqb-true b a h)))

tree_turned : (o p : Option ℕ) → passes (λ t. passes (nat_eq t) p) o ≡ passes (λ t. passes (nat_eq t) o) p
tree_turned None None = refl
tree_turned None (Some u) = refl
tree_turned (Some t) None = refl
tree_turned (Some t) (Some u) = turned t u

-- either way round
pub differ_turned : (trees : List (Option ℕ)) (e f : Entry) → differ trees e f ≡ differ trees f e
differ_turned trees e f = rw (tree_turned (tree_at trees e) (tree_at trees f), turned e.score f.score) refl

pub tie_turned : (trees : List (Option ℕ)) (e f : Entry) → tie trees e f ≡ tie trees f e
tie_turned trees e f = rw (tree_turned (tree_at trees e) (tree_at trees f), turned e.score f.score) refl

-- a choice is in no conflict with itself
pub differ_self : (trees : List (Option ℕ)) (e : Entry) → differ trees e e ≡ false
differ_self trees e = let same = eq-eqb e.score e.score refl in rw same (none (in_one_tree trees e e))
  where
    none : (b : Bool) → (b && false) ≡ false
    none true = refl
    none false = refl
