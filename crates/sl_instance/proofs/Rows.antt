-- Rows in conflict by key are rows in conflict in a tree.
use Rattle.std.proofs.Common.{◌≡◌, ◌≤◌, ◌<◌, ◌+◌, ◌*◌, ℕ, zero, suc, Bool, true, false, ◌&&◌, not, List, [], ◌∷◌, map, take, length, get_or, nat_eq, position, All, Option, Some, None, refl, sym, ap, ◌∙◌, subst, arith, eqb-true, eq-eqb, inl, inr}
use Rattle.std.specs.Prelude.{option_map}
use Rattle.std.specs.List.{list_any, range_with_len}
use Rattle.std.proofs.lemmas.Bool.{and_from, and_parts, cases_order}
use Rattle.std.proofs.Math.Nat.{mul-le-mul_left}
use Rattle.std.proofs.lemmas.List.{get_or-map, get_or-take, length-map}
use Rattle.sl_types.specs.declared.kinds.Pool.{Pool}
use Rattle.sl_types.specs.declared.kinds.PoolId.{PoolId}
use Rattle.sl_types.specs.declared.kinds.TheConstants.{MAX_SCORE, MAX_APPLICANTS}
use Rattle.sl_types.specs.Market.{Market, pool_of}
use Rattle.sl_types.specs.Rules.{share_tree}
use Rattle.sl_types.specs.Trees.{tree_of, tree_at, passes}
use Rattle.sl_types.proofs.Alike.{numbers_alike}
use Rattle.sl_types.proofs.Lists.{any_fails}
use Rattle.sl_types.proofs.Roots.{IsNested, share_is}
use Rattle.sl_types.proofs.Ties.{any_within}
use Rattle.sl_choices.specs.declared.choices.ChoiceRow.{ChoiceRow}
use Rattle.sl_instance.specs.Assembly.{entry_of}
use Rattle.sl_instance.specs.Conflicts.{Keyed, is_against, has_against, is_conflicted, first_conflict}
use Rattle.sl_instance.specs.Causes.{IsFine, contradicts, ties_with, no_row, first_against, merit_row, tie_row, market_before, keyed_fault, merit_fault}

same_test : (a b : Bool) → (a ≡ true → b ≡ true) → (b ≡ true → a ≡ true) → a ≡ b
same_test true b f g = sym (f refl)
same_test false true f g = g refl
same_test false false f g = refl

and_false : (a : Bool) → (a && false) ≡ false
and_false true = refl
and_false false = refl

-- a row against an earlier one
abbrev pub is_one : Keyed → Keyed → Bool
is_one None earlier = false
is_one (Some (k, v)) earlier = is_against k v earlier

any_is : (row : Keyed) (before : List Keyed) → has_against before row ≡ list_any (is_one row) before
any_is None before = sym (any_fails (λ r. false) before (λ r. refl))
any_is (Some (k, v)) before = refl

not_lower : (most t u a b : ℕ) → a < most → t < u → t * most + a ≡ u * most + b → ⊥
not_lower most t u a b low_a low e =
    let le : suc t ≤ u = omega (arith, low) in
    let more = mul-le-mul_left most le in
    let f : most * suc t ≡ t * most + most = omega arith in
    let g : most * u ≡ u * most = omega arith in
    omega (arith, more, f, g, e, low_a)

same_keys : (most t u a b : ℕ) → a < most → b < most → t * most + a ≡ u * most + b → (t ≡ u) × (a ≡ b)
same_keys most t u a b low_a low_b e = elim (cases_order t u) [
  | inl same ↦ (same, (let f : t * most ≡ u * most = ap (λ (n : ℕ). n * most) same in omega (arith, e, f)))
  | inr other ↦ elim other [
    | inl low ↦ absurd (not_lower most t u a b low_a low e)
    | inr high ↦ absurd (not_lower most u t b a low_b high (sym e))
  ]
]

same_pair : (most t u a b : ℕ) (c : Bool) → a < most → b < most → (nat_eq (t * most + a) (u * most + b) && c) ≡ (nat_eq a b && (nat_eq t u && c))
same_pair most t u a b c low_a low_b = same_test _ _
    (λ h.
    let parts = and_parts (nat_eq (t * most + a) (u * most + b)) c h in
    let same = same_keys most t u a b low_a low_b (eqb-true (t * most + a) (u * most + b) parts.0) in
    and_from (nat_eq a b) (nat_eq t u && c) (eq-eqb a b same.1) (and_from (nat_eq t u) c (eq-eqb t u same.0) parts.1))
    (λ h.
    let parts = and_parts (nat_eq a b) (nat_eq t u && c) h in
    let inner = and_parts (nat_eq t u) c parts.1 in
    let of_t = eqb-true t u inner.0 in
    let of_a = eqb-true a b parts.0 in
    and_from (nat_eq (t * most + a) (u * most + b)) c (eq-eqb (t * most + a) (u * most + b) (ap (λ (n : ℕ). n * most + a) of_t ∙ ap (λ (n : ℕ). u * most + n) of_a)) inner.1)

-- a key of a tree and a number is both of them
key_is : (most : ℕ) (o p : Option ℕ) (a b v w : ℕ) → a < most → b < most
    → is_one (option_map (λ tree. (tree * most + a, v)) o) (option_map (λ tree. (tree * most + b, w)) p)
    ≡ (nat_eq a b && (passes (λ t. passes (nat_eq t) p) o && not (nat_eq v w)))
key_is most None p a b v w low_a low_b = sym (and_false (nat_eq a b))
key_is most (Some t) None a b v w low_a low_b = sym (and_false (nat_eq a b))
key_is most (Some t) (Some u) a b v w low_a low_b = same_pair most t u a b (not (nat_eq v w)) low_a low_b

take_map : {A B : Type 0} (f : A → B) (k : ℕ) (xs : List A) → take k (map f xs) ≡ map f (take k xs)
take_map f zero xs = refl
take_map f (suc k) [] = refl
take_map f (suc k) (x ∷ xs) = ap (λ ys. f x ∷ ys) (take_map f k xs)

any_map : {A B : Type 0} (p : B → Bool) (f : A → B) (xs : List A) → list_any p (map f xs) ≡ list_any (λ x. p (f x)) xs
any_map p f [] = refl
any_map p f (x ∷ xs) = rw (any_map p f xs) refl

-- conflicts by key are those of a test, where they are for each two rows
conflicts_are : (f : ChoiceRow → Keyed) (test : ChoiceRow → ChoiceRow → Bool) (Fine : ChoiceRow → Type 0) (rows : List ChoiceRow) → All Fine rows
    → ((row earlier : ChoiceRow) → Fine row → Fine earlier → is_one (f row) (f earlier) ≡ test row earlier) → first_conflict (map f rows) ≡ first_against test rows
conflicts_are f test Fine rows fine h =
    ap (λ (n : ℕ). position (is_conflicted (map f rows)) (range_with_len 0 n)) (length-map rows f) ∙ numbers_alike (is_conflicted (map f rows)) (λ k. list_any (test (get_or rows k no_row)) (take k rows)) (length rows)
    (λ k lt.
    let row : ChoiceRow = get_or rows k no_row in
    let at_k : get_or (map f rows) k None ≡ f row = get_or-map f rows k no_row None lt in
    ap (has_against (take k (map f rows))) at_k ∙ any_is (f row) (take k (map f rows)) ∙ ap (λ (xs : List Keyed). list_any (is_one (f row)) xs) (take_map f k rows)
    ∙ any_map (is_one (f row)) f (take k rows)
    ∙ any_within (λ e. is_one (f row) (f e)) (test row) (take k rows)
    (λ j c j_in.
    let low : j < k = let len = Rattle.std.proofs.Common.length-take k rows in omega (arith, len, j_in) in
    let same : get_or (take k rows) j c ≡ get_or rows j c = get_or-take k rows j c low in
    h row (get_or (take k rows) j c) (fine k no_row lt) (subst Fine (sym same) (fine j c (omega (arith, low, lt))))))

module _ (market : Market) (ok : IsNested market) where
  abbrev trees : List (Option ℕ)
  trees = map (λ (Q : PoolId). tree_of market.pools Q.0) market.progs

  shares : (row earlier : ChoiceRow) → IsFine (length market.progs) row → IsFine (length market.progs) earlier → passes (λ t. passes (nat_eq t) (tree_at trees (entry_of earlier))) (tree_at trees (entry_of row)) ≡ share_tree market (entry_of row) (entry_of earlier)
  shares row earlier fine before =
      let at_row : tree_at trees (entry_of row) ≡ tree_of market.pools (pool_of market (entry_of row)) = get_or-map (λ (Q : PoolId). tree_of market.pools Q.0) market.progs row.prog.0 (record { 0 = 0 }) None fine.prog in
      let at_earlier : tree_at trees (entry_of earlier) ≡ tree_of market.pools (pool_of market (entry_of earlier)) = get_or-map (λ (Q : PoolId). tree_of market.pools Q.0) market.progs earlier.prog.0 (record { 0 = 0 }) None before.prog in
      ap (λ o. passes (λ t. passes (nat_eq t) (tree_at trees (entry_of earlier))) o) at_row
      ∙ ap (λ p. passes (λ t. passes (nat_eq t) p) (tree_of market.pools (pool_of market (entry_of row)))) at_earlier ∙ sym (share_is market ok (entry_of row) (entry_of earlier))

  pub differing : (rows : List ChoiceRow) → All (IsFine (length market.progs)) rows → first_conflict (map (merit_row trees) rows) ≡ first_against (contradicts market) rows
  differing rows fine = conflicts_are (merit_row trees) (contradicts market) (IsFine (length market.progs)) rows fine
      (λ row earlier now before. key_is MAX_APPLICANTS (tree_at trees (entry_of row)) (tree_at trees (entry_of earlier)) row.app.0 earlier.app.0 row.score earlier.score now.app before.app
      ∙ ap (λ b. nat_eq row.app.0 earlier.app.0 && (b && not (nat_eq row.score earlier.score))) (shares row earlier now before))

  pub tied : (rows : List ChoiceRow) → All (IsFine (length market.progs)) rows → first_conflict (map (tie_row trees) rows) ≡ first_against (ties_with market) rows
  tied rows fine = conflicts_are (tie_row trees) (ties_with market) (IsFine (length market.progs)) rows fine
      (λ row earlier now before.
      let low_row : row.score < MAX_SCORE + 1 = let h = now.score in omega (arith, h) in
      let low_earlier : earlier.score < MAX_SCORE + 1 = let h = before.score in omega (arith, h) in
      key_is (MAX_SCORE + 1) (tree_at trees (entry_of row)) (tree_at trees (entry_of earlier)) row.score earlier.score row.app.0 earlier.app.0 low_row low_earlier
      ∙ ap (λ b. nat_eq row.score earlier.score && (b && not (nat_eq row.app.0 earlier.app.0))) (shares row earlier now before))

-- the faults by trees and keys are those of the rules
pub by_trees : (pools : List Pool) (progs : List PoolId) → IsNested (market_before pools progs) → (rows : List ChoiceRow) → All (IsFine (length progs)) rows
    → keyed_fault (map (λ (Q : PoolId). tree_of pools Q.0) progs) rows ≡ merit_fault pools progs rows
by_trees pools progs ok rows fine =
    let merits = differing (market_before pools progs) ok rows fine in
    let ties = tied (market_before pools progs) ok rows fine in
    rw (merits, ties) refl
