-- More choices have the number of a choice than those of one applicant exactly where another applicant has one.
use Rattle.std.proofs.Common.{◌≡◌, ◌≢◌, ◌∙◌, ◌≤◌, ◌<◌, ◌+◌, ℕ, zero, suc, Bool, true, false, cond, nat_lt, List, [], ◌∷◌, length, get_or, Option, Some, None, refl, sym, ap, arith, inl, inr, true≢false}
use Rattle.std.specs.Prelude.{sum_by, count_by}
use Rattle.std.specs.List.{list_all, list_any}
use Rattle.std.proofs.lemmas.Bool.{cases_Bool, ltb-true, ltb-false}
use Rattle.std.proofs.lemmas.List.Sums.{sum_by-cons, get_or-le-sum_by, AllPass-from_list_all}
use Rattle.std.proofs.lemmas.List.{get_or_past}
use Rattle.sl_types.specs.declared.kinds.Entry.{Entry}
use Rattle.sl_types.specs.declared.kinds.TheConstants.{MAX_SCORE}
use Rattle.sl_types.specs.Trees.{merit_key, passes}
use Rattle.sl_types.proofs.Ties.{any_within}
use Rattle.sl_amend.specs.declared.merits.Merits.{Merits}
use Rattle.sl_amend.specs.Merits.{held_at, has_key, count_in, count_over, is_held_beyond, Holds}
use Rattle.sl_amend.specs.Roll.{is_choice}
use Rattle.sl_amend.proofs.OneTree.{tie, key_is, scored_low}

-- two of the terms of a sum
both_within : {A : Type 0} (f : A → ℕ) (xs : List A) (a b : ℕ) (d : A) → a ≢ b → a < length xs → b < length xs → f (get_or xs a d) + f (get_or xs b d) ≤ sum_by f xs
both_within f [] a b d ne la lb = absurd (omega (arith, la))
both_within f (x ∷ xs) zero zero d ne la lb = absurd (ne refl)
both_within f (x ∷ xs) zero (suc b) d ne la lb = omega (arith, sum_by-cons f x xs, get_or-le-sum_by f xs b d (omega (arith, lb)))
both_within f (x ∷ xs) (suc a) zero d ne la lb = omega (arith, sum_by-cons f x xs, get_or-le-sum_by f xs a d (omega (arith, la)))
both_within f (x ∷ xs) (suc a) (suc b) d ne la lb =
    omega (arith, sum_by-cons f x xs, both_within f xs a b d (λ e. ne (ap suc e)) (omega (arith, la)) (omega (arith, lb)))

-- one term is the whole sum: the others are nothing
others_none : {A : Type 0} (f : A → ℕ) (xs : List A) (a b : ℕ) (d : A) → f d ≡ 0 → sum_by f xs ≤ f (get_or xs a d) → a ≢ b → f (get_or xs b d) ≡ 0
others_none f xs a b d nothing low ne = elim (cases_Bool (nat_lt b (length xs))) [
  | inr past ↦ ap f (get_or_past xs b d (ltb-false b (length xs) past)) ∙ nothing
  | inl b_in ↦
      let lb = ltb-true b (length xs) b_in in
      elim (cases_Bool (nat_lt a (length xs))) [
        | inl a_in ↦ let la = ltb-true a (length xs) a_in in let both = both_within f xs a b d ne la lb in omega (arith, both, low)
        | inr past ↦
            let none : f (get_or xs a d) ≡ 0 = ap f (get_or_past xs a d (ltb-false a (length xs) past)) ∙ nothing in
            let one = get_or-le-sum_by f xs b d lb in
            omega (arith, none, one, low)
      ]
]

some_term : {A : Type 0} (f : A → ℕ) (xs : List A) (d : A) → 0 < sum_by f xs → (b : ℕ) × (b < length xs) × (0 < f (get_or xs b d))
some_term f [] d h = absurd (omega (arith, h))
some_term f (x ∷ xs) d h = elim (cases_Bool (nat_lt 0 (f x))) [
  | inl e ↦ (zero, omega arith, ltb-true 0 (f x) e)
  | inr e ↦
      let none = ltb-false 0 (f x) e in
      let (b, lt, more) = some_term f xs d (omega (arith, h, sum_by-cons f x xs, none)) in
      (suc b, omega (arith, lt), more)
]

-- one term is less than the sum: another is more than nothing
other_some : {A : Type 0} (f : A → ℕ) (xs : List A) (a : ℕ) (d : A) → f (get_or xs a d) < sum_by f xs → (b : ℕ) × (a ≢ b) × (b < length xs) × (0 < f (get_or xs b d))
other_some f [] a d h = absurd (omega (arith, h))
other_some f (x ∷ xs) zero d h =
    let (b, lt, more) = some_term f xs d (omega (arith, h, sum_by-cons f x xs)) in
    (suc b, λ e. cc e, omega (arith, lt), more)
other_some f (x ∷ xs) (suc a) d h = elim (cases_Bool (nat_lt 0 (f x))) [
  | inl e ↦ (zero, λ e. cc e, omega arith, ltb-true 0 (f x) e)
  | inr e ↦
      let none = ltb-false 0 (f x) e in
      let (b, ne, lt, more) = other_some f xs a d (omega (arith, h, sum_by-cons f x xs, none)) in
      (suc b, λ e. ne (cc e), omega (arith, lt), more)
]

count_none : {A : Type 0} (p : A → Bool) (xs : List A) → count_by p xs ≡ 0 → list_any p xs ≡ false
count_none p [] h = refl
count_none p (x ∷ xs) h =
    let sum = sum_by-cons (λ y. cond (p y) 1 0) x xs in
    elim (cases_Bool (p x)) [
      | inl e ↦ (let one : cond {A = ℕ} (p x) 1 0 ≡ 1 = rw e refl in absurd (omega (arith, sum, h, one)))
      | inr e ↦ (let rest = count_none p xs (omega (arith, sum, h)) in rw (e, rest) refl)
    ]

count_some : {A : Type 0} (p : A → Bool) (xs : List A) → 0 < count_by p xs → list_any p xs ≡ true
count_some p [] h = absurd (omega (arith, h))
count_some p (x ∷ xs) h =
    let sum = sum_by-cons (λ y. cond (p y) 1 0) x xs in
    elim (cases_Bool (p x)) [
      | inl e ↦ rw e refl
      | inr e ↦
          (let none : cond {A = ℕ} (p x) 1 0 ≡ 0 = rw e refl in
          let rest = count_some p xs (omega (arith, sum, h, none)) in rw (e, rest) refl)
    ]

-- the search for a number is the search for the tree and the score
by_key : (trees : List (Option ℕ)) (progs key : ℕ) (e : Entry) (choices : List Entry) → merit_key trees e ≡ Some key → e.score ≤ MAX_SCORE → list_all (is_choice progs) choices ≡ true
    → list_any (has_key trees key) choices ≡ list_any (tie trees e) choices
by_key trees progs key e choices at low fine =
    any_within (has_key trees key) (tie trees e) choices
    (λ k d lt. let f : Entry = get_or choices k d in
    ap (λ o. passes (λ n. has_key trees n f) o) (sym at) ∙ key_is trees e f low (scored_low progs f (AllPass-from_list_all (is_choice progs) choices fine k d lt)))

no_key : (trees : List (Option ℕ)) (progs : ℕ) (e : Entry) (choices : List Entry) → merit_key trees e ≡ None → e.score ≤ MAX_SCORE → list_all (is_choice progs) choices ≡ true
    → list_any (tie trees e) choices ≡ false
no_key trees progs e choices at low fine =
    sym (any_within (λ f. false) (tie trees e) choices
    (λ k d lt. let f : Entry = get_or choices k d in
    ap (λ o. passes (λ n. has_key trees n f) o) (sym at) ∙ key_is trees e f low (scored_low progs f (AllPass-from_list_all (is_choice progs) choices fine k d lt))))
    ∙ never choices
  where
    never : (xs : List Entry) → list_any (λ f. false) xs ≡ false
    never [] = refl
    never (x ∷ xs) = never xs

-- what a draft counts: so many of each number, over lists in order
pub record IsTallied (merits : Merits) (progs : ℕ) (lists : List (List Entry)) : Type 0 where
  pub held : Holds merits (λ key. count_over merits.trees.items key lists)
  pub fine : (b : ℕ) → list_all (is_choice progs) (get_or lists b []) ≡ true

module _ (merits : Merits) (progs : ℕ) (lists : List (List Entry)) (tallied : IsTallied merits progs lists) where
  abbrev trees : List (Option ℕ)
  trees = merits.trees.items

  -- no other applicant has the merit of a choice
  pub beyond_none : (a : ℕ) (e : Entry) → e.score ≤ MAX_SCORE → is_held_beyond merits (get_or lists a []) e ≡ false → (b : ℕ) → a ≢ b → list_any (tie trees e) (get_or lists b []) ≡ false
  beyond_none a e low held_not b ne = at (merit_key trees e) refl
    where
      at : (o : Option ℕ) → merit_key trees e ≡ o → list_any (tie trees e) (get_or lists b []) ≡ false
      at None is = no_key trees progs e (get_or lists b []) is low (tallied.fine b)
      at (Some key) is =
          let less : nat_lt (count_in trees key (get_or lists a [])) (held_at merits key) ≡ false =
          ap (λ o. passes (λ key. nat_lt (count_in trees key (get_or lists a [])) (held_at merits key)) o) (sym is) ∙ held_not in
          let within = ltb-false (count_in trees key (get_or lists a [])) (held_at merits key) less in
          let held = tallied.held key in
          let nothing = others_none (count_in trees key) lists a b [] refl (omega (arith, within, held)) ne in
          sym (by_key trees progs key e (get_or lists b []) is low (tallied.fine b)) ∙ count_none (has_key trees key) (get_or lists b []) nothing

  -- another applicant has it
  pub beyond_some : (a : ℕ) (e : Entry) → e.score ≤ MAX_SCORE → is_held_beyond merits (get_or lists a []) e ≡ true
      → (b : ℕ) × (a ≢ b) × (b < length lists) × (list_any (tie trees e) (get_or lists b []) ≡ true)
  beyond_some a e low held_more = at (merit_key trees e) refl
    where
      at : (o : Option ℕ) → merit_key trees e ≡ o → (b : ℕ) × (a ≢ b) × (b < length lists) × (list_any (tie trees e) (get_or lists b []) ≡ true)
      at None is = absurd (true≢false (sym held_more ∙ ap (λ o. passes (λ key. nat_lt (count_in trees key (get_or lists a [])) (held_at merits key)) o) is))
      at (Some key) is =
          let less : nat_lt (count_in trees key (get_or lists a [])) (held_at merits key) ≡ true =
          ap (λ o. passes (λ key. nat_lt (count_in trees key (get_or lists a [])) (held_at merits key)) o) (sym is) ∙ held_more in
          let more = ltb-true (count_in trees key (get_or lists a [])) (held_at merits key) less in
          let held = tallied.held key in
          let (b, ne, lt, some) = other_some (count_in trees key) lists a [] (omega (arith, more, held)) in
          (b, ne, lt, sym (by_key trees progs key e (get_or lists b []) is low (tallied.fine b)) ∙ count_some (has_key trees key) (get_or lists b []) some)
