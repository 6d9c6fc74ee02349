-- Each choice that stands in a draft is named by a row that led there, or stood at the opening.
use Rattle.std.proofs.Common.{◌≡◌, ◌∙◌, ◌<◌, ◌⊎◌, ◌&&◌, ◌++◌, ℕ, zero, suc, Bool, true, false, nat_eq, nat_lt, List, [], ◌∷◌, length, map, filter, set, get_or, position, cond, Option, Some, None, refl, sym, ap, arith, inl, inr, true≢false, eqb-true, eq-eqb, get_or-set_same, get_or-set_other, length-set}
use Rattle.std.specs.Prelude.{unwrap_or}
use Rattle.std.specs.Option.{option_or}
use Rattle.std.specs.Str.{bytes_eq}
use Rattle.std.specs.List.{list_any, position_or_len, AllByRecursion}
use Rattle.std.proofs.lemmas.Bool.{cases_Bool, cases_lt, or_parts, or_left, or_right, and_parts, and_from, lt-ltb}
use Rattle.std.proofs.lemmas.Bool.Decides.{eqb_tells}
use Rattle.std.proofs.lemmas.List.{get_or_past}
use Rattle.std.proofs.lemmas.List.Folds.{list_any-append}
use Rattle.sl_types.specs.declared.kinds.Entry.{Entry}
use Rattle.sl_types.specs.Trees.{passes}
use Rattle.sl_types.proofs.Lists.{place_lt, none_first}
use Rattle.sl_codes.specs.Codes.{has_code, number_of}
use Rattle.sl_codes.specs.Records.{Record}
use Rattle.sl_choices.specs.Choices.{number_among}
use Rattle.sl_amend.specs.Applied.{with_choice, rescored}
use Rattle.sl_amend.specs.Causes.{kind_field, subject_field, programme_field}
use Rattle.sl_amend.specs.Files.{makes_choice}
use Rattle.sl_amend.specs.Kinds.{kind_of}
use Rattle.sl_amend.proofs.Passing.{position_more}
use Rattle.sl_amend.proofs.Tested.{any_more}

-- each test that no choice of a list passes fails at this one
abbrev pub Stands : List Entry → Entry → Type 0
Stands choices e = (p : Entry → Bool) → list_any p choices ≡ false → p e ≡ false

-- a row names the choice of an applicant and a programme
abbrev pub names : List (List ℕ) → List (List ℕ) → ℕ → ℕ → Record → Bool
names apps progs a g row =
    makes_choice (kind_of (kind_field row))
    && (passes (nat_eq a) (number_of apps (subject_field row)) && passes (nat_eq g) (number_of progs (programme_field row)))

-- one of these rows names a choice, or it stood in the old list
abbrev pub Traced : List (List ℕ) → List (List ℕ) → List (List Entry) → List Record → ℕ → Entry → Type 0
Traced apps progs old rows a e = (list_any (names apps progs a e.prog.0) rows ≡ true) ⊎ Stands (get_or old a []) e

-- so it is of each choice
abbrev pub AreTraced : List (List ℕ) → List (List ℕ) → List (List Entry) → List Record → List (List Entry) → Type 0
AreTraced apps progs old rows lists = (a : ℕ) → AllByRecursion (Traced apps progs old rows a) (get_or lists a [])

-- what holds of each of these choices
pub each_weaker : (P Q : Entry → Type 0) → ((e : Entry) → P e → Q e) → (xs : List Entry) → AllByRecursion P xs → AllByRecursion Q xs
each_weaker P Q more [] h = tt
each_weaker P Q more (x ∷ xs) h = (more x h.0, each_weaker P Q more xs h.1)

pub each_with_choice : (P : Entry → Type 0) (e : Entry) (xs : List Entry) → P e → AllByRecursion P xs → AllByRecursion P (with_choice e xs)
each_with_choice P e [] here h = (here, tt)
each_with_choice P e (x ∷ xs) here h = elim (cases_Bool (nat_lt e.place x.place)) [
  | inl k ↦ rw k (here, h)
  | inr k ↦ rw k (h.0, each_with_choice P e xs here h.1)
]

pub each_filter : (P : Entry → Type 0) (p : Entry → Bool) (xs : List Entry) → AllByRecursion P xs → AllByRecursion P (filter p xs)
each_filter P p [] h = tt
each_filter P p (x ∷ xs) h = elim (cases_Bool (p x)) [
  | inl k ↦ rw k (h.0, each_filter P p xs h.1)
  | inr k ↦ rw k (each_filter P p xs h.1)
]

pub each_map : (P Q : Entry → Type 0) (f : Entry → Entry) → ((e : Entry) → P e → Q (f e)) → (xs : List Entry) → AllByRecursion P xs → AllByRecursion Q (map f xs)
each_map P Q f more [] h = tt
each_map P Q f more (x ∷ xs) h = (more x h.0, each_map P Q f more xs h.1)

pub each_at : (P : Entry → Type 0) (xs : List Entry) (k : ℕ) (d : Entry) → AllByRecursion P xs → k < length xs → P (get_or xs k d)
each_at P [] k d h lt = absurd (omega (arith, lt))
each_at P (x ∷ xs) zero d h lt = h.0
each_at P (x ∷ xs) (suc k) d h lt = each_at P xs k d h.1 (omega (arith, lt))

-- each choice of a list stands there
stands_from : (all xs : List Entry) → ((p : Entry → Bool) → list_any p all ≡ false → list_any p xs ≡ false) → AllByRecursion (Stands all) xs
stands_from all [] fewer = tt
stands_from all (x ∷ xs) fewer = (
  λ p k. (or_parts (p x) (list_any p xs) (fewer p k)).0,
  stands_from all xs (λ p k. (or_parts (p x) (list_any p xs) (fewer p k)).1),
)

-- before any row each choice stands in the old list
pub traced_first : (apps progs : List (List ℕ)) (old : List (List Entry)) → AreTraced apps progs old [] old
traced_first apps progs old a =
    each_weaker (Stands (get_or old a [])) (Traced apps progs old [] a) (λ e h. inr h) (get_or old a []) (stands_from (get_or old a []) (get_or old a []) (λ p k. k))

-- the number of a code that is there
pub number_some : (codes : List (List ℕ)) (code : List ℕ) → has_code codes code ≡ true → number_of codes code ≡ Some (position_or_len (bytes_eq code) codes)
number_some codes code h = let less = lt-ltb (position_or_len (bytes_eq code) codes) (length codes) (place_lt (bytes_eq code) codes h) in rw less refl

pub number_is_among : (codes : List (List ℕ)) (code : List ℕ) → has_code codes code ≡ true → number_of codes code ≡ Some (number_among codes code)
number_is_among codes code h = let at = number_some codes code h in at ∙ ap (λ (n : ℕ). Some n) (sym (ap (λ (o : Option ℕ). unwrap_or o 0) at))

-- a number below the number of codes is that of a code
pub number_is_own : (codes : List (List ℕ)) (code : List ℕ) → unwrap_or (number_of codes code) (length codes) < length codes
    → number_of codes code ≡ Some (unwrap_or (number_of codes code) (length codes))
number_is_own codes code lt = elim (cases_Bool (has_code codes code)) [
  | inl e ↦ (let at = number_some codes code e in at ∙ ap (λ (n : ℕ). Some n) (sym (ap (λ (o : Option ℕ). unwrap_or o (length codes)) at)))
  | inr e ↦
      (let none : number_of codes code ≡ None = none_first (bytes_eq code) codes e in
      let past : unwrap_or (number_of codes code) (length codes) ≡ length codes = ap (λ (o : Option ℕ). unwrap_or o (length codes)) none in
      absurd (omega (arith, lt, past)))
]

-- what a row names
pub names_is : (apps progs : List (List ℕ)) (a g : ℕ) (row : Record) → makes_choice (kind_of (kind_field row)) ≡ true
    → number_of apps (subject_field row) ≡ Some a → number_of progs (programme_field row) ≡ Some g → names apps progs a g row ≡ true
names_is apps progs a g row makes app prog =
    and_from (makes_choice (kind_of (kind_field row))) _ makes
    (and_from (passes (nat_eq a) (number_of apps (subject_field row))) (passes (nat_eq g) (number_of progs (programme_field row)))
    (ap (passes (nat_eq a)) app ∙ eq-eqb a a refl) (ap (passes (nat_eq g)) prog ∙ eq-eqb g g refl))

some_is : (n : ℕ) (o : Option ℕ) → passes (nat_eq n) o ≡ true → o ≡ Some n
some_is n None h = absurd (true≢false (sym h))
some_is n (Some m) h = ap (λ (k : ℕ). Some k) (sym (eqb-true n m h))

pub record IsNaming (apps progs : List (List ℕ)) (a g : ℕ) (row : Record) : Type 0 where
  pub makes : makes_choice (kind_of (kind_field row)) ≡ true
  pub app : number_of apps (subject_field row) ≡ Some a
  pub prog : number_of progs (programme_field row) ≡ Some g

pub naming : (apps progs : List (List ℕ)) (a g : ℕ) (row : Record) → names apps progs a g row ≡ true → IsNaming apps progs a g row
naming apps progs a g row h =
    let parts = and_parts (makes_choice (kind_of (kind_field row))) _ h in
    let both = and_parts (passes (nat_eq a) (number_of apps (subject_field row))) (passes (nat_eq g) (number_of progs (programme_field row))) parts.1 in
    record { makes = parts.0; app = some_is a _ both.0; prog = some_is g _ both.1 }

still_passes : (p : ℕ → Bool) (o other : Option ℕ) → passes p o ≡ true → passes p (option_or o other) ≡ true
still_passes p None other h = absurd (true≢false (sym h))
still_passes p (Some n) other h = h

-- with one more code a row names what it named
names_pushed : (apps progs : List (List ℕ)) (code : List ℕ) (a g : ℕ) (row : Record) → names apps progs a g row ≡ true → names (apps ++ code ∷ []) progs a g row ≡ true
names_pushed apps progs code a g row h =
    let parts = and_parts (makes_choice (kind_of (kind_field row))) _ h in
    let both = and_parts (passes (nat_eq a) (number_of apps (subject_field row))) (passes (nat_eq g) (number_of progs (programme_field row))) parts.1 in
    let more : number_of (apps ++ code ∷ []) (subject_field row) ≡ _ = position_more (bytes_eq (subject_field row)) apps code in
    and_from (makes_choice (kind_of (kind_field row))) _ parts.0
    (and_from (passes (nat_eq a) (number_of (apps ++ code ∷ []) (subject_field row))) (passes (nat_eq g) (number_of progs (programme_field row)))
    (ap (passes (nat_eq a)) more ∙ still_passes (nat_eq a) (number_of apps (subject_field row)) _ both.0) both.1)

module _ (apps progs : List (List ℕ)) (old : List (List Entry)) (rows : List Record) (row : Record) where
  abbrev more_rows : List Record
  more_rows = rows ++ row ∷ []

  -- one more row
  pub traced_on : (a : ℕ) (e : Entry) → Traced apps progs old rows a e → Traced apps progs old more_rows a e
  traced_on a e h = elim h [
    | inl named ↦ inl (list_any-append (names apps progs a e.prog.0) rows (row ∷ []) ∙ or_left (list_any (names apps progs a e.prog.0) rows) (list_any (names apps progs a e.prog.0) (row ∷ [])) named)
    | inr stands ↦ inr stands
  ]

  -- it names the choice
  pub traced_here : (a : ℕ) (e : Entry) → names apps progs a e.prog.0 row ≡ true → Traced apps progs old more_rows a e
  traced_here a e h =
      inl (list_any-append (names apps progs a e.prog.0) rows (row ∷ [])
      ∙ or_right (list_any (names apps progs a e.prog.0) rows) (list_any (names apps progs a e.prog.0) (row ∷ [])) (or_left (names apps progs a e.prog.0 row) false h))

  pub all_traced_on : (lists : List (List Entry)) → AreTraced apps progs old rows lists → AreTraced apps progs old more_rows lists
  all_traced_on lists h a = each_weaker (Traced apps progs old rows a) (Traced apps progs old more_rows a) (traced_on a) (get_or lists a []) (h a)

  -- one list is another
  pub traced_set : (lists : List (List Entry)) (a : ℕ) (choices : List Entry) → AreTraced apps progs old rows lists
      → (a < length lists → AllByRecursion (Traced apps progs old more_rows a) choices) → AreTraced apps progs old more_rows (set lists a choices)
  traced_set lists a choices h here b = elim (eqb_tells b a) [
    | inl e ↦ rw (e.1) (elim (cases_lt a (length lists)) [
      | inl lt ↦ (let at = get_or-set_same lists a choices [] lt in rw at (here lt))
      | inr past ↦
          (let at : get_or (set lists a choices) a [] ≡ [] = get_or_past (set lists a choices) a [] (omega (arith, past, length-set lists a choices)) in
          rw at tt)
    ])
    | inr e ↦ (let at = get_or-set_other lists a b choices [] e.1 in rw at (all_traced_on lists h b))
  ]

-- a choice of a programme with another score
pub traced_scored : (apps progs : List (List ℕ)) (old : List (List Entry)) (rows : List Record) (a g score : ℕ) (e : Entry)
    → (nat_eq e.prog.0 g ≡ true → Traced apps progs old rows a (record e { score = score })) → Traced apps progs old rows a e → Traced apps progs old rows a (rescored g score e)
traced_scored apps progs old rows a g score e here h = elim (cases_Bool (nat_eq e.prog.0 g)) [
  | inl k ↦ rw k (here k)
  | inr k ↦ rw k h
]

-- one more applicant
pub traced_pushed : (apps progs : List (List ℕ)) (old : List (List Entry)) (rows : List Record) (lists : List (List Entry)) (code : List ℕ) (choices : List Entry)
    → AreTraced apps progs old rows lists → AllByRecursion (Traced (apps ++ code ∷ []) progs old rows (length lists)) choices → AreTraced (apps ++ code ∷ []) progs old rows (lists ++ choices ∷ [])
traced_pushed apps progs old rows lists code choices h here b = elim (cases_lt b (length lists)) [
  | inl lt ↦
      (let at = Rattle.std.proofs.lemmas.List.get_or_append_left lists (choices ∷ []) [] b lt in
      rw at (each_weaker (Traced apps progs old rows b) (Traced (apps ++ code ∷ []) progs old rows b) (wider b) (get_or lists b []) (h b)))
  | inr past ↦ elim (eqb_tells b (length lists)) [
    | inl e ↦ (let at = Rattle.std.proofs.lemmas.List.get_or_push lists choices [] (length lists) refl in rw (e.1, at) here)
    | inr e ↦
        (let longer = Rattle.std.proofs.Common.length-append lists (choices ∷ []) in
        let at : get_or (lists ++ choices ∷ []) b [] ≡ [] = get_or_past (lists ++ choices ∷ []) b [] (omega (arith, past, longer, e.1)) in
        rw at tt)
  ]
] where
  wider : (a : ℕ) (e : Entry) → Traced apps progs old rows a e → Traced (apps ++ code ∷ []) progs old rows a e
  wider a e h = elim h [
    | inl named ↦ inl (any_more (names apps progs a e.prog.0) (names (apps ++ code ∷ []) progs a e.prog.0) rows (λ row k. names_pushed apps progs code a e.prog.0 row k) named)
    | inr stands ↦ inr stands
  ]
