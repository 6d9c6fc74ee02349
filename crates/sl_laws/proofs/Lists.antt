-- Counts and sums of lists.
use Rattle.std.proofs.Common.{◌≡◌, ℕ, nat_eq, ◌+◌, ◌<◌, ◌≤◌, zero, suc, Bool, true, false, true≢false, cond, List, [], ◌∷◌, length, Some, None, sym, refl, ap, ◌∙◌, ⊎_elim, inl, inr, arith, find, filter, sum_by, All, Contains}
use Rattle.std.proofs.lemmas.List.Sums.{sum_by-cons}
use Rattle.std.proofs.lemmas.List.Elements.{All-head, All-tail}
use Rattle.std.proofs.lemmas.Bool.{cond_both, cond-true, cond-false, cases_Bool, cases_eq, eq-eqb, ne_eqb}
use Rattle.std.specs.List.{range_with_len}

-- a sum over what a filter keeps rises with its terms
pub sum_by_filter_le : {X : Type 0} (p : X → Bool) (g h : X → ℕ) (xs : List X) → ((x : X) → p x ≡ true → g x ≤ h x) → sum_by g (filter p xs) ≤ sum_by h (filter p xs)
sum_by_filter_le p g h [] le = omega arith
sum_by_filter_le p g h (x ∷ xs) le = let k = sum_by_filter_le p g h xs le in
    cond_both (p x) (x ∷ filter p xs) (filter p xs) (λ l. sum_by g l ≤ sum_by h l)
    (λ e. let j = le x e in omega (arith, sum_by-cons g x (filter p xs), sum_by-cons h x (filter p xs))) (λ e. k)

-- a test that passes more keeps no fewer
pub filter_more : {A : Type 0} (p q : A → Bool) (xs : List A) → All (λ x. p x ≡ true → q x ≡ true) xs → length (filter p xs) ≤ length (filter q xs)
filter_more p q [] all = omega arith
filter_more p q (x ∷ xs) all =
    let rest = filter_more p q xs (All-tail (λ x. p x ≡ true → q x ≡ true) x xs all) in
    elim (cases_Bool (p x)) [
      | inl hit ↦ let also = All-head (λ x. p x ≡ true → q x ≡ true) x xs all hit in rw (hit, also) (omega (arith, rest))
      | inr miss ↦ elim (cases_Bool (q x)) [
        | inl hit ↦ rw (miss, hit) (omega (arith, rest))
        | inr never ↦ rw (miss, never) rest
      ]
    ]

-- the first element is in a list
pub contains_head : {A : Type 0} (x c : A) (xs : List A) → x ≡ c → Contains (x ∷ xs) c
contains_head x c xs e = (0, omega arith, e)

-- so is each later one
pub contains_tail : {A : Type 0} (x c : A) (xs : List A) → Contains xs c → Contains (x ∷ xs) c
contains_tail x c xs h = (suc h.0, (let k = h.1 in omega arith), h.2)

-- what is found is in the list, and passes
pub find_is : {A : Type 0} (p : A → Bool) (xs : List A) (c : A) → find p xs ≡ Some c → Contains xs c × (p c ≡ true)
find_is p [] c e = let f : None ≡ Some c = e in cc
find_is {A} p (x ∷ xs) c e = ⊎_elim
    (λ t. let is : Some x ≡ Some c = sym (cond-true (p x) (Some x) (find p xs) t) ∙ e in let same : x ≡ c = cc in (contains_head x c xs same, ap p (sym same) ∙ t))
    (λ f. let k = find_is p xs c (sym (cond-false (p x) (Some x) (find p xs) f) ∙ e) in (contains_tail x c xs k.0, k.1)) (cases_Bool (p x))

-- the first that passes p is the first that passes q, where it passes q and each that passes q passes p
pub find_same : {A : Type 0} (p q : A → Bool) (xs : List A) (c : A) → find p xs ≡ Some c → q c ≡ true → ((b : A) → Contains xs b → q b ≡ true → p b ≡ true) → find q xs ≡ Some c
find_same p q [] c e here up = e
find_same {A} p q (x ∷ xs) c e here up = ⊎_elim
    (λ t. let is : Some x ≡ Some c = sym (cond-true (p x) (Some x) (find p xs) t) ∙ e in let same : x ≡ c = cc in
    cond-true (q x) (Some x) (find q xs) (ap q same ∙ here) ∙ is)
    (λ f. let rest : find p xs ≡ Some c = sym (cond-false (p x) (Some x) (find p xs) f) ∙ e in
    ⊎_elim (λ (t : q x ≡ true). let u = up x (contains_head x x xs refl) t in absurd (true≢false (sym u ∙ f)))
    (λ (g : q x ≡ false). cond-false (q x) (Some x) (find q xs) g ∙ find_same p q xs c rest here (λ b i. up b (contains_tail x b xs i))) (cases_Bool (q x)))
    (cases_Bool (p x))

-- 1 for true, 0 for false
abbrev pub bit : Bool → ℕ
bit b = cond b 1 0

-- one element more of a filtered list
pub length_filter_cons : {A : Type 0} (p : A → Bool) (x : A) (xs : List A) → length (filter p (x ∷ xs)) ≡ bit (p x) + length (filter p xs)
length_filter_cons p x xs = cond_both (p x) (x ∷ filter p xs) (filter p xs) (λ l. length l ≡ bit (p x) + length (filter p xs))
    (λ e. rw e (omega arith)) (λ e. rw e (omega arith))

-- sums of the same terms
pub sum_by_same : {X : Type 0} (g h : X → ℕ) (xs : List X) → ((x : X) → g x ≡ h x) → sum_by g xs ≡ sum_by h xs
sum_by_same g h [] same = refl
sum_by_same g h (x ∷ xs) same = let k = sum_by_same g h xs same in let s = same x in omega (arith, k, s, sum_by-cons g x xs, sum_by-cons h x xs)

-- a sum of sums
pub sum_by_plus : {X : Type 0} (g h : X → ℕ) (xs : List X) → sum_by (λ x. g x + h x) xs ≡ sum_by g xs + sum_by h xs
sum_by_plus g h [] = omega arith
sum_by_plus g h (x ∷ xs) = let k = sum_by_plus g h xs in omega (arith, k, sum_by-cons (λ x. g x + h x) x xs, sum_by-cons g x xs, sum_by-cons h x xs)

-- a sum of zeros
pub sum_by_zero : {X : Type 0} (xs : List X) → sum_by (λ x. 0) xs ≡ 0
sum_by_zero {X} [] = refl
sum_by_zero {X} (x ∷ xs) = let k = sum_by_zero xs in omega (arith, k, sum_by-cons (λ (x : X). 0) x xs)

-- sums of the same terms over what a filter keeps
pub sum_by_filter_same : {X : Type 0} (p : X → Bool) (g h : X → ℕ) (xs : List X) → ((x : X) → p x ≡ true → g x ≡ h x) → sum_by g (filter p xs) ≡ sum_by h (filter p xs)
sum_by_filter_same p g h xs same = let a = sum_by_filter_le p g h xs (λ x e. let s = same x e in omega (arith, s)) in let b = sum_by_filter_le p h g xs (λ x e. let s = same x e in omega (arith, s)) in omega (arith, a, b)

-- what is counted under one of many tests, element by element, is counted so over a list
pub count_split : {A : Type 0} (w : ℕ → A → Bool) (d c : A → Bool) (ks : List ℕ) → ((x : A) → sum_by (λ k. bit (w k x)) ks + bit (d x) ≡ bit (c x)) → (xs : List A)
    → sum_by (λ k. length (filter (w k) xs)) ks + length (filter d xs) ≡ length (filter c xs)
count_split w d c ks each [] = let z = sum_by_zero ks in omega (arith, z)
count_split w d c ks each (x ∷ xs) =
    let ih = count_split w d c ks each xs in
    let here = each x in
    let a = sum_by_same (λ k. length (filter (w k) (x ∷ xs))) (λ k. bit (w k x) + length (filter (w k) xs)) ks (λ k. length_filter_cons (w k) x xs) in
    let b = sum_by_plus (λ k. bit (w k x)) (λ k. length (filter (w k) xs)) ks in
    let e = length_filter_cons d x xs in let f = length_filter_cons c x xs in
    omega (arith, ih, here, a, b, e, f)

range_past : (p : ℕ → Bool) (Q a n : ℕ) → Q < a → sum_by (λ D. bit (nat_eq Q D)) (filter p (range_with_len a n)) ≡ 0
range_past p Q a zero h = refl
range_past p Q a (suc n) h = let k = range_past p Q (a + 1) n (omega (arith, h)) in
    cond_both (p a) (a ∷ filter p (range_with_len (a + 1) n)) (filter p (range_with_len (a + 1) n)) (λ l. sum_by (λ D. bit (nat_eq Q D)) l ≡ 0)
    (λ e. let z : bit (nat_eq Q a) ≡ 0 = ap bit (ne_eqb Q a (λ s. omega (arith, s, h))) in omega (arith, k, z, sum_by-cons (λ D. bit (nat_eq Q D)) a (filter p (range_with_len (a + 1) n)))) (λ e. k)

-- a number is counted once among the numbers of a range that pass, if it passes
pub range_once : (p : ℕ → Bool) (Q a n : ℕ) → a ≤ Q → Q < a + n → sum_by (λ D. bit (nat_eq Q D)) (filter p (range_with_len a n)) ≡ bit (p Q)
range_once p Q a zero h k = absurd (omega (arith, h, k))
range_once p Q a (suc n) h k = ⊎_elim
    (λ (same : Q ≡ a). let past = range_past p Q (a + 1) n (omega (arith, same)) in let one : bit (nat_eq Q a) ≡ 1 = ap bit (eq-eqb Q a same) in
    let pq : bit (p Q) ≡ bit (p a) = ap (λ (m : ℕ). bit (p m)) same in
    cond_both (p a) (a ∷ filter p (range_with_len (a + 1) n)) (filter p (range_with_len (a + 1) n)) (λ l. sum_by (λ D. bit (nat_eq Q D)) l ≡ bit (p Q))
    (λ e. let b : bit (p a) ≡ 1 = ap bit e in omega (arith, past, one, pq, b, sum_by-cons (λ D. bit (nat_eq Q D)) a (filter p (range_with_len (a + 1) n))))
    (λ e. let b : bit (p a) ≡ 0 = ap bit e in omega (arith, past, pq, b)))
    (λ ne. let later = range_once p Q (a + 1) n (omega (arith, h, ne)) (omega (arith, k)) in let none : bit (nat_eq Q a) ≡ 0 = ap bit (ne_eqb Q a ne) in
    cond_both (p a) (a ∷ filter p (range_with_len (a + 1) n)) (filter p (range_with_len (a + 1) n)) (λ l. sum_by (λ D. bit (nat_eq Q D)) l ≡ bit (p Q))
    (λ e. omega (arith, later, none, sum_by-cons (λ D. bit (nat_eq Q D)) a (filter p (range_with_len (a + 1) n))))
    (λ e. later))
    (cases_eq Q a)
