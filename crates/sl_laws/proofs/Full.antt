-- Full pools and their lowest merits.
use Rattle.std.proofs.Common.{◌≡◌, ℕ, ◌≤◌, suc, min, Bool, true, true≢false, ◌&&◌, cond, nat_le, List, [], ◌∷◌, length, get_or, map, filter, All, Option, Some, None, sym, ap, ◌∙◌, inl, inr, arith}
use Rattle.std.proofs.lemmas.Bool.{eqb-true, eq-eqb, leb-true, le-leb, and_parts, and_from, cases_Bool}
use Rattle.std.proofs.lemmas.List.Elements.{All-nil, All-cons, All-head, All-tail, All-weaker, All-from_get_or}
use Rattle.sl_types.specs.declared.kinds.Entry.{Entry}
use Rattle.sl_types.specs.Market.{Market, pool_of, quota_of, lies_in}
use Rattle.sl_laws.specs.Limits.{Limits, admitted_choice, is_admitted_in, admitted_in, count_in, merit_of, merits_in, least_with, lowest_of, is_full, bar, passes}
use Rattle.sl_laws.proofs.Lists.{filter_more}
use Rattle.sl_laws.proofs.Parts.{is_within, admitted_within}
use Rattle.std.proofs.lemmas.List.{length-map}

least_with_le : (x : ℕ) (ys : List ℕ) → least_with x ys ≤ x
least_with_le x [] = omega arith
least_with_le x (y ∷ ys) = omega arith

least_with_all : (x : ℕ) (ys : List ℕ) → All (λ y. least_with x ys ≤ y) ys
least_with_all x [] = All-nil (λ y. x ≤ y)
least_with_all x (y ∷ ys) = All-cons (λ z. min x (least_with y ys) ≤ z) y ys (let a = least_with_le y ys in omega (arith, a))
    (All-weaker (λ z. least_with y ys ≤ z) (λ z. min x (least_with y ys) ≤ z) (λ z h. omega (arith, h)) ys (least_with_all y ys))

lowest_all : (ys : List ℕ) → All (λ y. lowest_of ys ≤ y) ys
lowest_all [] = All-nil (λ y. 0 ≤ y)
lowest_all (y ∷ ys) = All-cons (λ z. least_with y ys ≤ z) y ys (least_with_le y ys) (least_with_all y ys)

least_with_from : (z x : ℕ) (ys : List ℕ) → z ≤ x → All (λ y. z ≤ y) ys → z ≤ least_with x ys
least_with_from z x [] h all = h
least_with_from z x (y ∷ ys) h all = let a = least_with_from z y ys (All-head (λ y. z ≤ y) y ys all) (All-tail (λ y. z ≤ y) y ys all) in omega (arith, a, h)

lowest_from : (z : ℕ) (ys : List ℕ) → 1 ≤ length ys → All (λ y. z ≤ y) ys → z ≤ lowest_of ys
lowest_from z [] some all = absurd (omega arith)
lowest_from z (y ∷ ys) some all = least_with_from z y ys (All-head (λ y. z ≤ y) y ys all) (All-tail (λ y. z ≤ y) y ys all)

module _ {A : Type 0} (m : A → ℕ) (p : A → Bool) (F : ℕ → Type 0) where
  -- what holds of each number that a filter leaves holds at each element that passes, and back
  all_filter : (xs : List A) → All F (map m (filter p xs)) → All (λ x. p x ≡ true → F (m x)) xs
  all_filter [] all = All-nil (λ x. p x ≡ true → F (m x))
  all_filter (x ∷ xs) all = elim (cases_Bool (p x)) [
    | inl hit ↦ let there : All F (m x ∷ map m (filter p xs)) = rw hit at all in
        All-cons (λ x. p x ≡ true → F (m x)) x xs (λ e. All-head F (m x) (map m (filter p xs)) there) (all_filter xs (All-tail F (m x) (map m (filter p xs)) there))
    | inr miss ↦ let there : All F (map m (filter p xs)) = rw miss at all in
        All-cons (λ x. p x ≡ true → F (m x)) x xs (λ e. absurd (true≢false (sym e ∙ miss))) (all_filter xs there)
  ]

  filter_all : (xs : List A) → All (λ x. p x ≡ true → F (m x)) xs → All F (map m (filter p xs))
  filter_all [] all = All-nil F
  filter_all (x ∷ xs) all = let rest = filter_all xs (All-tail (λ x. p x ≡ true → F (m x)) x xs all) in elim (cases_Bool (p x)) [
    | inl hit ↦ rw hit (All-cons F (m x) (map m (filter p xs)) (All-head (λ x. p x ≡ true → F (m x)) x xs all hit) rest)
    | inr miss ↦ rw miss rest
  ]

-- where q passes all that p passes and no more of them, p passes all that q passes
filter_back : {A : Type 0} (p q : A → Bool) (xs : List A) → All (λ x. p x ≡ true → q x ≡ true) xs → length (filter q xs) ≤ length (filter p xs) → All (λ x. q x ≡ true → p x ≡ true) xs
filter_back p q [] all h = All-nil (λ x. q x ≡ true → p x ≡ true)
filter_back p q (x ∷ xs) all h =
    let rest = All-tail (λ x. p x ≡ true → q x ≡ true) x xs all in
    let more = filter_more p q xs rest in
    elim (cases_Bool (p x)) [
      | inl hit ↦ let also = All-head (λ x. p x ≡ true → q x ≡ true) x xs all hit in
          let h' : suc (length (filter q xs)) ≤ suc (length (filter p xs)) = rw (hit, also) at h in
          All-cons (λ x. q x ≡ true → p x ≡ true) x xs (λ e. hit) (filter_back p q xs rest (omega (arith, h')))
      | inr miss ↦ elim (cases_Bool (q x)) [
        | inl hit ↦ let h' : suc (length (filter q xs)) ≤ length (filter p xs) = rw (hit, miss) at h in absurd (omega (arith, h', more))
        | inr never ↦ let h' : length (filter q xs) ≤ length (filter p xs) = rw (never, miss) at h in
            All-cons (λ x. q x ≡ true → p x ≡ true) x xs (λ e. absurd (true≢false (sym e ∙ never))) (filter_back p q xs rest h')
      ]
    ]

module _ (market : Market) (t : Limits) (P : ℕ) where
  merit : List Entry → ℕ
  merit choices = merit_of (admitted_choice market t choices)

  within_in : (x : ℕ) (o : Option Entry) → passes (λ e. lies_in market (pool_of market e) P && nat_le x e.score) o ≡ true → passes (λ e. lies_in market (pool_of market e) P) o ≡ true
  within_in x None h = h
  within_in x (Some e) h = (and_parts (lies_in market (pool_of market e) P) (nat_le x e.score) h).0

  in_within : (x : ℕ) (o : Option Entry) → x ≤ merit_of o → passes (λ e. lies_in market (pool_of market e) P) o ≡ true → passes (λ e. lies_in market (pool_of market e) P && nat_le x e.score) o ≡ true
  in_within x None m h = h
  in_within x (Some e) m h = and_from (lies_in market (pool_of market e) P) (nat_le x e.score) h (le-leb x e.score m)

  within_merit : (x : ℕ) (o : Option Entry) → passes (λ e. lies_in market (pool_of market e) P && nat_le x e.score) o ≡ true → x ≤ merit_of o
  within_merit x None h = absurd (true≢false (sym h))
  within_merit x (Some e) h = leb-true x e.score (and_parts (lies_in market (pool_of market e) P) (nat_le x e.score) h).1

  -- those of merit at least x are among all
  pub within_le : (x : ℕ) → length (admitted_within market t P x) ≤ count_in market t P
  within_le x = filter_more (is_within market t P x) (is_admitted_in market t P) market.lists (All-from_get_or (λ cs. is_within market t P x cs ≡ true → is_admitted_in market t P cs ≡ true) market.lists [] (λ a a_in. within_in x (admitted_choice market t (get_or market.lists a []))))

  -- and are all, where each has it
  pub within_all : (x : ℕ) → All (λ y. x ≤ y) (merits_in market t P) → count_in market t P ≤ length (admitted_within market t P x)
  within_all x all = let each = all_filter (λ choices. merit_of (admitted_choice market t choices)) (is_admitted_in market t P) (λ y. x ≤ y) market.lists all in
      filter_more (is_admitted_in market t P) (is_within market t P x) market.lists
      (All-from_get_or (λ cs. is_admitted_in market t P cs ≡ true → is_within market t P x cs ≡ true) market.lists [] (λ a a_in e. in_within x (admitted_choice market t (get_or market.lists a [])) (each a [] a_in e) e))

  -- where all have merit at least x and there is one, so has the lowest
  pub lowest_within : (x : ℕ) → 1 ≤ count_in market t P → count_in market t P ≤ length (admitted_within market t P x) → x ≤ lowest_of (merits_in market t P)
  lowest_within x some h = let back = filter_back (is_within market t P x) (is_admitted_in market t P) market.lists
      (All-from_get_or (λ cs. is_within market t P x cs ≡ true → is_admitted_in market t P cs ≡ true) market.lists [] (λ a a_in. within_in x (admitted_choice market t (get_or market.lists a [])))) h in
      lowest_from x (merits_in market t P) (let l = length-map (admitted_in market t P) (λ choices. merit_of (admitted_choice market t choices)) in omega (arith, l, some))
      (filter_all (λ choices. merit_of (admitted_choice market t choices)) (is_admitted_in market t P) (λ y. x ≤ y) market.lists
      (All-from_get_or (λ cs. is_admitted_in market t P cs ≡ true → x ≤ merit_of (admitted_choice market t cs)) market.lists [] (λ a a_in e. within_merit x (admitted_choice market t (get_or market.lists a [])) (back a [] a_in e))))

  -- a bar above 0 is that of a full pool
  pub bar_full : 1 ≤ bar market t P → (count_in market t P ≡ quota_of market P) × (bar market t P ≡ lowest_of (merits_in market t P))
  bar_full h = elim (cases_Bool (is_full market t P)) [
    | inl yes' ↦ (eqb-true (count_in market t P) (quota_of market P) yes', ap (λ b. cond b (lowest_of (merits_in market t P)) 0) yes')
    | inr no' ↦ let z : bar market t P ≡ 0 = ap (λ b. cond b (lowest_of (merits_in market t P)) 0) no' in absurd (omega (arith, z, h))
  ]

  -- the bar of a full pool is its lowest merit
  pub full_bar : count_in market t P ≡ quota_of market P → bar market t P ≡ lowest_of (merits_in market t P)
  full_bar e = ap (λ b. cond b (lowest_of (merits_in market t P)) 0) (eq-eqb (count_in market t P) (quota_of market P) e)

  -- a full pool is filled by those of merit at least its bar
  pub bar_fills : (x : ℕ) → 1 ≤ bar market t P → x ≤ bar market t P → quota_of market P ≤ length (admitted_within market t P x)
  bar_fills x some low = let f = bar_full some in let c = f.0 in let b = f.1 in
      let k = within_all x (All-weaker (λ y. lowest_of (merits_in market t P) ≤ y) (λ y. x ≤ y) (λ y h. omega (arith, h, b, low)) (merits_in market t P) (lowest_all (merits_in market t P))) in omega (arith, k, c)
