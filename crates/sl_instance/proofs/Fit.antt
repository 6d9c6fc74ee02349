-- What three tables make breaks no rule of an instance.
use Rattle.std.proofs.Common.{◌≡◌, ◌∙◌, ◌<◌, ◌≤◌, ◌+◌, ◌&&◌, ℕ, zero, suc, Bool, true, false, List, [], ◌∷◌, map, length, get_or, sum_by, nat_eq, nat_lt, nat_le, position, All, Option, Some, None, refl, sym, ap, arith, inl, inr, true≢false, add-one, filter}
use native.Mathlib.Numerals.{unary_clauses}
use Rattle.std.specs.List.{list_all, list_any, IsDistinct, AllByRecursion}
use Rattle.std.specs.List.Sorted.{IsNonDecreasing, IsStrictlyIncreasing}
use Rattle.std.proofs.lemmas.Bool.{cases_Bool, and_from, and_parts, or_parts, leb-true, leb-false, ltb-true, lt-ltb}
use Rattle.std.proofs.lemmas.Bool.Decides.{eqb_tells, nat_tests}
use Rattle.std.proofs.lemmas.List.{get_or-map, length-map}
use Rattle.std.proofs.lemmas.List.Sorted.{IsPermutation-map, length_permutation, list_any-IsPermutation}
use Rattle.std.proofs.lemmas.List.Sums.{sum_by-cons}
use Rattle.std.proofs.lemmas.Map.Keys.{IsDistinct-IsPermutation, IsStrictlyIncreasing-from_distinct}
use Rattle.sl_types.specs.declared.kinds.Entry.{Entry}
use Rattle.sl_types.specs.declared.kinds.TheConstants.{MAX_POOLS, MAX_PROGRAMMES, MAX_APPLICANTS, MAX_CHOICES, MAX_LIST, MAX_PLACE, MAX_SCORE}
use Rattle.sl_types.specs.Market.{Market, list_of}
use Rattle.sl_types.specs.Rules.{is_no_pool, is_too_long, has_prog_out, is_misplaced, rises_from, is_out_of_order, has_score_out, names_prog, has_prog_twice}
use Rattle.sl_types.specs.Valid.{IsValid, nesting_fault, merit_fault, size_fault, quota_fault, programme_fault, list_fault}
use Rattle.sl_types.proofs.Lists.{first_none}
use Rattle.sl_types.proofs.Alike.{nesting_alike}
use Rattle.sl_types.proofs.Faultless.{valid_by}
use Rattle.sl_pools.specs.Pools.{PoolList, IsPoolList}
use Rattle.sl_pools.specs.Programmes.{ProgList, IsProgList}
use Rattle.sl_choices.specs.declared.choices.ChoiceRow.{ChoiceRow}
use Rattle.sl_choices.specs.Choices.{ChoiceList}
use Rattle.sl_choices.specs.Rows.{rows_of_app, is_row_of, IsChoiceList}
use Rattle.sl_choices.proofs.Kept.{places_once, progs_once}
use Rattle.sl_instance.specs.Assembly.{entry_of, AreChoices, IsKnown}
use Rattle.sl_instance.specs.Causes as Causes
use Rattle.sl_instance.specs.Causes.{IsFine, merits_fault, first_against, contradicts, market_before}
use Rattle.sl_instance.proofs.Agreeing.{no_merit_fault}
use Rattle.sl_types.proofs.Roots.{nested}
use Rattle.sl_codes.specs.Faults.{pass_fault}
use Rattle.sl_codes.specs.declared.faults.Cause.{Cause}
use Rattle.sl_codes.specs.declared.faults.Cause.TheVariants.{MeritDiffers, MeritTied}
use Rattle.sl_codes.specs.declared.faults.Table.TheVariants.{Applications}
use Rattle.sl_codes.proofs.FirstFault.{neither}
use Rattle.sl_instance.specs.Lists.{IsSortedOf}
use Rattle.sl_instance.proofs.Chosen.{chosen}

-- tests of numbers that fail
not_below : (a b : ℕ) → b ≤ a → nat_lt a b ≡ false
not_below a b le = elim (cases_Bool (nat_lt a b)) [
  | inl e ↦ let lt = ltb-true a b e in absurd (omega (arith, lt, le))
  | inr e ↦ e
]

up_to : (a b : ℕ) → a ≤ b → nat_le a b ≡ true
up_to a b le = elim (cases_Bool (nat_le a b)) [
  | inl e ↦ e
  | inr e ↦ let lt = leb-false a b e in absurd (omega (arith, lt, le))
]

not_up_to : (a b : ℕ) → b < a → nat_le a b ≡ false
not_up_to a b lt = elim (cases_Bool (nat_le a b)) [
  | inl e ↦ let le = leb-true a b e in absurd (omega (arith, lt, le))
  | inr e ↦ e
]

-- a test that fails at each element, by its place
map_map : {A B C : Type 0} (f : A → B) (g : B → C) (xs : List A) → map g (map f xs) ≡ map (λ x. g (f x)) xs
map_map f g [] = refl
map_map f g (x ∷ xs) = ap (λ ys. g (f x) ∷ ys) (map_map f g xs)

-- a test that fails at the choice of each row
none_chosen : (p : Entry → Bool) (a : ℕ) (rows : List ChoiceRow) → ((k : ℕ) (d : ChoiceRow) → k < length rows → p (entry_of (get_or rows k d)) ≡ false) → list_any p (chosen a rows) ≡ false
none_chosen p a [] h = refl
none_chosen p a (row ∷ rows) h =
    let here = h 0 row (omega arith) in
    let later = none_chosen p a rows (λ k d lt. h (suc k) d (omega (arith, lt))) in
    elim (cases_Bool (nat_eq row.app.0 a)) [
      | inl e ↦ rw (e, here, later) refl
      | inr e ↦ rw (e, later) refl
    ]

-- a row in its ranges
ranged_row : (n : ℕ) (row : ChoiceRow) → is_row_of n row ≡ true → (is_misplaced (entry_of row) ≡ false) × (nat_lt MAX_SCORE row.score ≡ false)
ranged_row n row h =
    let all = and_parts (nat_lt row.app.0 n && nat_le 1 row.place && nat_le row.place MAX_PLACE) (nat_le row.score MAX_SCORE) h in
    let high = and_parts (nat_lt row.app.0 n && nat_le 1 row.place) (nat_le row.place MAX_PLACE) all.0 in
    let low = and_parts (nat_lt row.app.0 n) (nat_le 1 row.place) high.0 in
    let below = not_below row.place 1 (leb-true 1 row.place low.1) in
    let over = not_below MAX_PLACE row.place (leb-true row.place MAX_PLACE high.1) in
    (rw (below, over) refl, not_below MAX_SCORE row.score (leb-true row.score MAX_SCORE all.1))

ranged_at : (n : ℕ) (rows : List ChoiceRow) → list_all (is_row_of n) rows ≡ true → (k : ℕ) (d : ChoiceRow) → k < length rows → is_row_of n (get_or rows k d) ≡ true
ranged_at n [] h k d lt = absurd (omega (arith, lt))
ranged_at n (row ∷ rows) h zero d lt = (and_parts (is_row_of n row) (list_all (is_row_of n) rows) h).0
ranged_at n (row ∷ rows) h (suc k) d lt = ranged_at n rows (and_parts (is_row_of n row) (list_all (is_row_of n) rows) h).1 k d (omega (arith, lt))

-- the numbers of rows that were read are in their ranges
pub rows_fine : (choices : ChoiceList) (progs : ℕ) → IsChoiceList choices → All (IsKnown (length choices.codes) progs) choices.rows → All (IsFine progs) choices.rows
rows_fine choices progs right known k d lt =
    let row : ChoiceRow = get_or choices.rows k d in
    let n : ℕ = length choices.codes in
    let score = (and_parts (nat_lt row.app.0 n && nat_le 1 row.place && nat_le row.place MAX_PLACE) (nat_le row.score MAX_SCORE) (ranged_at n choices.rows right.ranged k d lt)).1 in
    let few = right.applicants in
    let app = (known k d lt).0 in
    record { app = omega (arith, app, few); prog = (known k d lt).1; score = leb-true row.score MAX_SCORE score }

-- numbers that rise strictly
rest_rises : (n : ℕ) (ns : List ℕ) → IsStrictlyIncreasing (n ∷ ns) → IsStrictlyIncreasing ns
rest_rises n ns up k lt = rw add-one (simp unary_clauses at up (suc k) (omega (arith, lt)))

rises_by : (low : ℕ) (es : List Entry) → (0 < length es → low < get_or (map (λ e. e.place) es) 0 0) → IsStrictlyIncreasing (map (λ e. e.place) es) → rises_from low es ≡ true
rises_by low [] first up = refl
rises_by low (e ∷ es) first up =
    let here = lt-ltb low e.place (first (omega arith)) in
    let later = rises_by e.place es (λ more. up 0 (omega (arith, more, length-map es (λ (f : Entry). f.place)))) (rest_rises e.place (map (λ (f : Entry). f.place) es) up) in
    and_from (nat_lt low e.place) (rises_from e.place es) here later

first_place : (es : List Entry) → list_any is_misplaced es ≡ false → 0 < length es → 0 < get_or (map (λ e. e.place) es) 0 0
first_place [] h lt = absurd (omega (arith, lt))
first_place (e ∷ es) h lt = positive e.place (or_parts (nat_lt e.place 1) (nat_lt MAX_PLACE e.place) (or_parts (is_misplaced e) (list_any is_misplaced es) h).0).0
  where
    positive : (n : ℕ) → nat_lt n 1 ≡ false → 0 < n
    positive zero h = absurd (true≢false h)
    positive (suc n) h = omega arith

-- programmes that stand once each
names_none : (g : ℕ) (es : List Entry) → AllByRecursion (λ h. nat_eq g h ≡ false) (map (λ e. e.prog.0) es) → names_prog g es ≡ false
names_none g [] h = refl
names_none g (e ∷ es) h =
    let here = flipped g e.prog.0 h.0 in
    let later = names_none g es h.1 in
    rw (here, later) refl
  where
    flipped : (a b : ℕ) → nat_eq a b ≡ false → nat_eq b a ≡ false
    flipped a b h = grind (arith, nat_tests)

never_twice : (es : List Entry) → IsDistinct nat_eq (map (λ e. e.prog.0) es) → has_prog_twice es ≡ false
unfolding IsDistinct
never_twice [] h = refl
never_twice (e ∷ es) h =
    let here = names_none e.prog.0 es h.0 in
    let later = never_twice es h.1 in
    rw (here, later) refl

-- sorted choices of an applicant
module _ (choices : ChoiceList) (right : IsChoiceList choices) (a : ℕ) (es : List Entry) (sorted : IsSortedOf (chosen a choices.rows) es) where
  carried : (f : Entry → ℕ) → IsDistinct nat_eq (map f (chosen a choices.rows)) → IsDistinct nat_eq (map f es)
  carried f h = IsDistinct-IsPermutation nat_eq (λ x y. grind (arith, nat_tests)) _ _ (IsPermutation-map f _ _ sorted.same) h

  fails_alike : (p : Entry → Bool) → ((k : ℕ) (d : ChoiceRow) → k < length choices.rows → p (entry_of (get_or choices.rows k d)) ≡ false) → list_any p es ≡ false
  fails_alike p h = sym (list_any-IsPermutation p _ _ sorted.same) ∙ none_chosen p a choices.rows h

  pub placed : list_any is_misplaced es ≡ false
  placed = fails_alike is_misplaced (λ k d lt. (ranged_row (length choices.codes) (get_or choices.rows k d) (ranged_at (length choices.codes) choices.rows right.ranged k d lt)).0)

  pub scored : has_score_out es ≡ false
  scored = fails_alike (λ e. nat_lt MAX_SCORE e.score) (λ k d lt. (ranged_row (length choices.codes) (get_or choices.rows k d) (ranged_at (length choices.codes) choices.rows right.ranged k d lt)).1)

  pub twice : has_prog_twice es ≡ false
  twice = never_twice es (carried (λ e. e.prog.0) (rw map_map (progs_once choices a right)))

  pub short : length es ≤ MAX_LIST
  short = let h = right.short a in omega (arith, h, length_permutation _ _ sorted.same, length-map (rows_of_app a choices.rows) entry_of)

  numbers_rise : IsNonDecreasing (map (λ e. e.place) es)
  numbers_rise i j d le lt =
      let n = length-map es (λ (e : Entry). e.place) in
      let e : Entry = record { place = d; prog = record { 0 = 0 }; score = 0 } in
      let at_i = get_or-map (λ (f : Entry). f.place) es i e d (omega (arith, n, le, lt)) in
      let at_j = get_or-map (λ (f : Entry). f.place) es j e d (omega (arith, n, lt)) in
      let up = sorted.sorted i j e le (omega (arith, n, lt)) in
      omega (arith, at_i, at_j, up)

  pub rising : rises_from 0 es ≡ true
  rising = rises_by 0 es (first_place es placed) (IsStrictlyIncreasing-from_distinct _ numbers_rise (carried (λ e. e.place) (rw map_map (places_once choices a right))))

  pub are_choices : AreChoices (rows_of_app a choices.rows) es
  are_choices = record { same = sorted.same; rising = rising }

-- there are no more choices than rows: those of an applicant, and those of the applicants after them
from_on : ℕ → List ChoiceRow → List ChoiceRow
from_on a rows = filter (λ row. nat_le a row.app.0) rows

split_at : (a : ℕ) (rows : List ChoiceRow) → length (rows_of_app a rows) + length (from_on (a + 1) rows) ≤ length (from_on a rows)
unfolding from_on
split_at a [] = omega arith
split_at a (row ∷ rows) =
    let rest = split_at a rows in
    elim (eqb_tells row.app.0 a) [
      | inl e ↦
          let here = up_to a row.app.0 (omega (arith, e.1)) in
          let later = not_up_to (a + 1) row.app.0 (omega (arith, e.1)) in
          rw (e.0, here, later) (omega (arith, rest))
      | inr e ↦ elim (cases_Bool (nat_le (a + 1) row.app.0)) [
        | inl later ↦
            let above = leb-true (a + 1) row.app.0 later in
            let here = up_to a row.app.0 (omega (arith, above)) in
            rw (e.0, here, later) (omega (arith, rest))
        | inr later ↦ elim (cases_Bool (nat_le a row.app.0)) [
          | inl here ↦ rw (e.0, here, later) (omega (arith, rest))
          | inr here ↦ rw (e.0, here, later) rest
        ]
      ]
    ]

no_longer : (a : ℕ) (rows : List ChoiceRow) → length (from_on a rows) ≤ length rows
unfolding from_on
no_longer a [] = omega arith
no_longer a (row ∷ rows) =
    let rest = no_longer a rows in
    elim (cases_Bool (nat_le a row.app.0)) [
      | inl e ↦ rw e (omega (arith, rest))
      | inr e ↦ rw e (omega (arith, rest))
    ]

few_choices : (a : ℕ) (lists : List (List Entry)) (rows : List ChoiceRow) → ((k app : ℕ) → k < length lists → a + k ≡ app → length (get_or lists k []) ≡ length (rows_of_app app rows))
    → sum_by length lists ≤ length (from_on a rows)
few_choices a [] rows h = omega arith
few_choices a (l ∷ ls) rows h =
    let here : length l ≡ length (rows_of_app a rows) = h 0 a (omega arith) (omega arith) in
    let later = few_choices (a + 1) ls rows (λ k app lt at. h (suc k) app (omega (arith, lt)) (omega (arith, at))) in
    omega (arith, sum_by-cons (λ (es : List Entry). length es) l ls, here, later, split_at a rows)

pass_none : (cause : Cause) (found : Option ℕ) → pass_fault Applications cause found ≡ None → found ≡ None
pass_none cause None h = refl
pass_none cause (Some n) h = cc h

-- three tables, and an instance of their pools, their programmes and sorted choices
module _ (pools : PoolList) (progs : ProgList) (choices : ChoiceList) (market : Market) (pools_right : IsPoolList pools) (progs_right : IsProgList progs) (right : IsChoiceList choices)
    (progs_within : All (λ Q. Q.0 < length pools.codes) progs.pools) (rows_within : All (λ row. (row.app.0 < length choices.codes) × (row.prog.0 < length progs.codes)) choices.rows)
    (pools_are : market.pools ≡ pools.pools) (progs_are : market.progs ≡ progs.pools) (each : length market.lists ≡ length choices.codes)
    (sorted : (a : ℕ) → a < length choices.codes → IsSortedOf (chosen a choices.rows) (list_of market a)) where
  -- a test that fails at the choices of each applicant
  in_no_list : (p : List Entry → Bool) → ((a : ℕ) → IsSortedOf (chosen a choices.rows) (list_of market a) → p (list_of market a) ≡ false) → position p market.lists ≡ None
  in_no_list p h = first_none p market.lists [] (λ a lt. h a (sorted a (omega (arith, lt, each))))

  no_size : size_fault market ≡ None
  no_size =
      let sum = few_choices 0 market.lists choices.rows (λ k app lt at.
      let same : k ≡ app = omega (arith, at) in
      let h = sorted app (omega (arith, lt, each, same)) in
      rw same (omega (arith, length_permutation _ _ h.same, length-map (rows_of_app app choices.rows) entry_of))) in
      let a = not_below MAX_POOLS (length market.pools) (omega (arith, pools_right.few, ap length pools_are)) in
      let b = not_below MAX_PROGRAMMES (length market.progs) (omega (arith, progs_right.few, ap length progs_are)) in
      let c = not_below MAX_APPLICANTS (length market.lists) (omega (arith, right.applicants, each)) in
      let d = not_below MAX_CHOICES (sum_by length market.lists) (omega (arith, sum, no_longer 0 choices.rows, right.few)) in
      rw (a, b, c, d) refl

  no_quota : quota_fault market ≡ None
  no_quota = rw pools_are pools_right.quotas

  no_nesting : nesting_fault market ≡ None
  no_nesting = sym (nesting_alike market.pools market.progs market.lists) ∙ rw pools_are pools_right.nesting

  no_programme : programme_fault market ≡ None
  no_programme =
      let none = first_none (is_no_pool market) market.progs (record { 0 = 0 }) (λ k lt.
      not_up_to (length market.pools) (get_or market.progs k (record { 0 = 0 })).0
      (omega (arith, within k lt, ap length pools_are, pools_right.each))) in
      rw none refl
    where
      within : (k : ℕ) → k < length market.progs → (get_or market.progs k (record { 0 = 0 })).0 < length pools.codes
      within k lt = rw progs_are (progs_within k (record { 0 = 0 }) (rw progs_are at lt))

  no_list : list_fault market ≡ None
  no_list =
      let long = in_no_list is_too_long (λ a h. not_below MAX_LIST (length (list_of market a)) (short choices right a (list_of market a) h)) in
      let out = in_no_list (has_prog_out market) (λ a h. fails_alike choices right a (list_of market a) h (λ e. nat_le (length market.progs) e.prog.0)
      (λ k d lt. not_up_to (length market.progs) (get_or choices.rows k d).prog.0 (omega (arith, (rows_within k d lt).1, progs_right.each, ap length progs_are)))) in
      let order = in_no_list is_out_of_order (λ a h. let p = placed choices right a (list_of market a) h in let r = rising choices right a (list_of market a) h in rw (p, r) refl) in
      let score = in_no_list has_score_out (λ a h. scored choices right a (list_of market a) h) in
      let repeated = in_no_list has_prog_twice (λ a h. twice choices right a (list_of market a) h) in
      rw (long, out, order, score, repeated) refl

  no_merit : merits_fault pools progs choices ≡ None → merit_fault market ≡ None
  no_merit h =
      let here : Causes.merit_fault market.pools market.progs choices.rows ≡ None = rw (pools_are, progs_are) h in
      let parts = neither (pass_fault Applications MeritDiffers (first_against (contradicts (market_before market.pools market.progs)) choices.rows)) _ here in
      let differ = pass_none MeritDiffers _ parts.0 in
      let tied = pass_none MeritTied _ parts.1 in
      let bare : nesting_fault (market_before market.pools market.progs) ≡ None = sym (nesting_alike market.pools market.progs []) ∙ rw pools_are pools_right.nesting in
      no_merit_fault market.pools market.progs market.lists choices.rows (nested (market_before market.pools market.progs) bare) (nested market no_nesting) differ tied
      (λ a lt. sorted a (omega (arith, lt, each)))

  pub fit : merits_fault pools progs choices ≡ None → IsValid market
  fit merits = valid_by market no_size no_quota no_nesting no_programme no_list (no_merit merits)
