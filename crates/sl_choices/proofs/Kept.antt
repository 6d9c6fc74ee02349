-- What a table that was read keeps.
use Rattle.std.proofs.Common.{◌≡◌, ◌∙◌, ◌<◌, ◌≤◌, ◌+◌, ◌++◌, ◌&&◌, ◌||◌, ℕ, Bool, true, false, cond, nat_eq, nat_lt, nat_le, List, [], ◌∷◌, length, map, Option, Some, None, refl, sym, arith, inl, inr, true≢false, length-append}
use Rattle.std.specs.Prelude.{unwrap_or, filter, is_none, option_and_then, All}
use Rattle.std.specs.List.{list_all, list_any, IsDistinct, AllByRecursion}
use Rattle.std.specs.Str.{bytes_eq}
use Rattle.std.proofs.lemmas.Bool.{cases_Bool, and_parts, leb-false, ltb-true, lt-ltb}
use Rattle.std.proofs.lemmas.Bool.Decides.{eqb_tells}
use Rattle.std.proofs.lemmas.Slice.Eq.{bytes_eq-Decides}
use Rattle.std.proofs.lemmas.List.Folds.{list_all-append}
use Rattle.std.proofs.lemmas.List.Elements.{All-from_recursion}
use Rattle.sl_types.specs.declared.kinds.TheConstants.{MAX_APPLICANTS, MAX_CHOICES, MAX_LIST, MAX_PLACE, MAX_SCORE}
use Rattle.sl_codes.specs.declared.faults.Cause.TheVariants.{BadNumber, TooMany, ListTooLong, RepeatedPlace, RepeatedChoice}
use Rattle.sl_codes.specs.Codes.{has_code, number_of, with_code}
use Rattle.sl_codes.specs.Fields.{is_code, number_of_field, number_within, number_in}
use Rattle.sl_codes.specs.Faults.{number_cause}
use Rattle.sl_codes.specs.Records.{Record, field_of}
use Rattle.sl_codes.proofs.FirstFault.{neither, unbroken, code_right}
use Rattle.sl_choices.specs.declared.choices.ChoiceRow.{ChoiceRow}
use Rattle.sl_choices.specs.Choices.{ChoiceList, number_among, choice_of}
use Rattle.sl_choices.specs.Rows.{rows_of_app, takes_place, takes_prog, own_cause, taken_cause, row_taken, is_row_of, share_place, share_prog, IsChoiceList}
use Rattle.sl_choices.proofs.Links.{own_push, other_push}
use Rattle.sl_choices.proofs.Lists.{get_push, get_last, before_or_last}
use Rattle.sl_codes.proofs.Lists.{agree, first_found}
use Rattle.sl_choices.proofs.Records.{numbered, code_added, row_right}
use Rattle.sl_types.proofs.Lists.{none_at}

-- no records keep all of it
pub kept_none : IsChoiceList (record { codes = []; rows = [] })
unfolding IsDistinct
kept_none = record {
  few = omega arith;
  applicants = omega arith;
  coded = refl;
  ranged = refl;
  present = λ app lt. absurd (omega (arith, lt));
  short = λ app. omega arith;
  places = tt;
  progs = tt;
}

either_false : (a b : Bool) → (a || b) ≡ false → (a ≡ false) × (b ≡ false)
either_false true b h = absurd (true≢false h)
either_false false b h = (refl, h)

all_push : {A : Type 0} (P : A → Type 0) (xs : List A) (y : A) → AllByRecursion P xs → P y → AllByRecursion P (xs ++ y ∷ [])
all_push P [] y h p = (p, tt)
all_push P (x ∷ xs) y h p = (h.0, all_push P xs y h.1 p)

-- one more element that no other equals
distinct_push : {A : Type 0} (e : A → A → Bool) (xs : List A) (y : A) → IsDistinct e xs → list_any (λ x. e x y) xs ≡ false → IsDistinct e (xs ++ y ∷ [])
unfolding IsDistinct
distinct_push e [] y h none = (tt, tt)
distinct_push e (x ∷ xs) y h none =
    let parts = either_false (e x y) (list_any (λ z. e z y) xs) none in
    (all_push (λ z. e x z ≡ false) xs y h.0 parts.0, distinct_push e xs y h.1 parts.1)

any_filter : {A : Type 0} (p q : A → Bool) (xs : List A) → list_any (λ x. q x && p x) xs ≡ list_any p (filter q xs)
any_filter p q [] = refl
any_filter p q (x ∷ xs) = elim (cases_Bool (q x)) [
  | inl e ↦ rw (e, any_filter p q xs) refl
  | inr e ↦ rw (e, any_filter p q xs) refl
]

-- a code that is new has the next number
new_number : (apps : List (List ℕ)) (code : List ℕ) → has_code apps code ≡ false → number_of (apps ++ code ∷ []) code ≡ Some (length apps)
new_number apps code none =
    let longer : length (apps ++ code ∷ []) ≡ length apps + 1 = length-append apps (code ∷ []) in
    let self = (bytes_eq-Decides code code).1 refl in
    first_found (bytes_eq code) (apps ++ code ∷ []) (length apps) [] (rw longer (omega arith))
    (λ k lt. rw (get_push apps code [] k lt) (none_at (bytes_eq code) apps [] k none lt)) (rw (get_last apps code [] (length apps) refl) self)

-- the applicants after a record are those before it and its own
app_before : (apps : List (List ℕ)) (code : List ℕ) (n app : ℕ) → number_of (with_code apps code) code ≡ Some n → app < length (with_code apps code) → (app ≡ n → ⊥) → app < length apps
app_before apps code n app number lt apart = elim (cases_Bool (has_code apps code)) [
  | inl e ↦ rw e at lt
  | inr e ↦
      let longer = rw (e, length-append apps (code ∷ [])) at lt in
      let is = sym (new_number apps code e) ∙ (rw e at number) in
      elim (before_or_last app (length apps) longer) [
        | inl l ↦ l
        | inr s ↦ absurd (apart (s ∙ some (length apps) n is))
      ]
]
  where
    some : (m n : ℕ) → Some m ≡ Some n → m ≡ n
    some m n e = cc e

more_apps : (apps : List (List ℕ)) (code : List ℕ) → length apps ≤ length (with_code apps code)
more_apps apps code = elim (cases_Bool (has_code apps code)) [
  | inl e ↦ rw e (omega arith)
  | inr e ↦ rw e (omega (arith, length-append apps (code ∷ [])))
]

row_of_more : (a b : ℕ) (row : ChoiceRow) → a ≤ b → is_row_of a row ≡ true → is_row_of b row ≡ true
row_of_more a b row le h =
    let all = and_parts (nat_lt row.app.0 a && nat_le 1 row.place && nat_le row.place MAX_PLACE) (nat_le row.score MAX_SCORE) h in
    let high = and_parts (nat_lt row.app.0 a && nat_le 1 row.place) (nat_le row.place MAX_PLACE) all.0 in
    let low = and_parts (nat_lt row.app.0 a) (nat_le 1 row.place) high.0 in
    let lt = ltb-true row.app.0 a low.0 in
    let more = lt-ltb row.app.0 b (omega (arith, lt, le)) in
    rw (more, low.1, high.1, all.1) refl

rows_of_more : (a b : ℕ) (rows : List ChoiceRow) → a ≤ b → list_all (is_row_of a) rows ≡ true → list_all (is_row_of b) rows ≡ true
rows_of_more a b [] le h = refl
rows_of_more a b (row ∷ rows) le h =
    let parts = and_parts (is_row_of a row) (list_all (is_row_of a) rows) h in
    let here = row_of_more a b row le parts.0 in
    let later = rows_of_more a b rows le parts.1 in
    rw (here, later) refl

-- a number in which nothing is wrong is in its range
in_range : (low high : ℕ) (field : List ℕ) → number_cause low high field ≡ None → (nat_le low (number_in field) ≡ true) × (nat_le (number_in field) high ≡ true)
in_range low high field h = at low high (number_of_field field) (unbroken (is_none (number_within low high field)) BadNumber h)
  where
    at : (low high : ℕ) (o : Option ℕ) → is_none (option_and_then (λ n. cond (nat_le low n && nat_le n high) (Some n) None) o) ≡ false
        → (nat_le low (unwrap_or o 0) ≡ true) × (nat_le (unwrap_or o 0) high ≡ true)
    at low high None h = absurd (true≢false h)
    at low high (Some n) h = elim (cases_Bool (nat_le low n && nat_le n high)) [
      | inl e ↦ let parts = and_parts (nat_le low n) (nat_le n high) e in (parts.0, parts.1)
      | inr e ↦ let no = rw e at h in absurd (true≢false no)
    ]

-- what holds of a record in which nothing is wrong
record IsRight (progs apps : List (List ℕ)) (rows : List ChoiceRow) (row : Record) (app : ℕ) : Type 0 where
  few : length rows < MAX_CHOICES
  coded : is_code (field_of row 0) ≡ true
  short : length (rows_of_app app rows) < MAX_LIST
  placed : (nat_le 1 (number_in (field_of row 1)) ≡ true) × (nat_le (number_in (field_of row 1)) MAX_PLACE ≡ true)
  place : takes_place (number_in (field_of row 1)) (rows_of_app app rows) ≡ false
  prog : takes_prog (number_among progs (field_of row 2)) (rows_of_app app rows) ≡ false
  scored : nat_le (number_in (field_of row 3)) MAX_SCORE ≡ true

right_row : (progs apps : List (List ℕ)) (rows : List ChoiceRow) (row : Record) (app : ℕ) → number_of (with_code apps (field_of row 0)) (field_of row 0) ≡ Some app
    → taken_cause progs apps rows row ≡ None → IsRight progs apps rows row app
right_row progs apps rows row app number h =
    let few = (neither _ _ (neither _ _ h).1).0 in
    let fields = neither _ _ (row_right progs apps rows row h) in
    let code = (neither _ _ fields.0).0 in
    let own : own_cause progs (rows_of_app app rows) row ≡ None = rw number at fields.1 in
    let list = neither _ _ own in
    let place = neither _ _ list.1 in
    let prog = neither _ _ place.1 in
    record {
      few = leb-false MAX_CHOICES (length rows) (unbroken (nat_le MAX_CHOICES (length rows)) TooMany few);
      coded = code_right (field_of row 0) code;
      short = leb-false MAX_LIST (length (rows_of_app app rows)) (unbroken (nat_le MAX_LIST (length (rows_of_app app rows))) ListTooLong list.0);
      placed = in_range 1 MAX_PLACE (field_of row 1) (neither _ _ place.0).0;
      place = unbroken (takes_place (number_in (field_of row 1)) (rows_of_app app rows)) RepeatedPlace (neither _ _ place.0).1;
      prog = unbroken (takes_prog (number_among progs (field_of row 2)) (rows_of_app app rows)) RepeatedChoice (neither _ _ prog.0).1;
      scored = (in_range 0 MAX_SCORE (field_of row 3) prog.1).1;
    }

codes_push : (apps : List (List ℕ)) (code : List ℕ) → list_all is_code apps ≡ true → is_code code ≡ true → list_all is_code (with_code apps code) ≡ true
codes_push apps code h right = elim (cases_Bool (has_code apps code)) [
  | inl e ↦ rw e h
  | inr e ↦ rw e (list_all-append is_code apps (code ∷ []) ∙ rw (h, right) refl)
]

-- one more row
kept_row : (apps : List (List ℕ)) (code : List ℕ) (rows : List ChoiceRow) (row : ChoiceRow) → IsChoiceList (record { codes = apps; rows = rows })
    → length rows < MAX_CHOICES → length (with_code apps code) ≤ MAX_APPLICANTS → is_code code ≡ true → number_of (with_code apps code) code ≡ Some row.app.0
    → is_row_of (length (with_code apps code)) row ≡ true → length (rows_of_app row.app.0 rows) < MAX_LIST
    → takes_place row.place (rows_of_app row.app.0 rows) ≡ false → takes_prog row.prog.0 (rows_of_app row.app.0 rows) ≡ false
    → IsChoiceList (record { codes = with_code apps code; rows = rows ++ row ∷ [] })
kept_row apps code rows row h few apps_few coded number ranged short place prog = record {
  few = omega (arith, few, length-append rows (row ∷ []));
  applicants = apps_few;
  coded = codes_push apps code h.coded coded;
  ranged = list_all-append (is_row_of (length (with_code apps code))) rows (row ∷ []) ∙ rw (rows_of_more (length apps) (length (with_code apps code)) rows (more_apps apps code) h.ranged, ranged) refl;
  present = λ app lt. elim (eqb_tells row.app.0 app) [
    | inl e ↦ rw (own_push app rows row e.1) (omega (arith, length-append (rows_of_app app rows) (row ∷ [])))
    | inr e ↦ rw (other_push app rows row e.1) (h.present app (app_before apps code row.app.0 app number lt (λ s. e.1 (sym s))))
  ];
  short = λ app. elim (eqb_tells row.app.0 app) [
    | inl e ↦ let mine = rw e.1 at short in rw (own_push app rows row e.1) (omega (arith, mine, length-append (rows_of_app app rows) (row ∷ [])))
    | inr e ↦ rw (other_push app rows row e.1) (h.short app)
  ];
  places = distinct_push share_place rows row h.places (any_filter (λ other. nat_eq other.place row.place) (λ other. nat_eq other.app.0 row.app.0) rows ∙ place);
  progs = distinct_push share_prog rows row h.progs (any_filter (λ other. nat_eq other.prog.0 row.prog.0) (λ other. nat_eq other.app.0 row.app.0) rows ∙ prog);
}

pub kept_push : (progs apps : List (List ℕ)) (rows : List ChoiceRow) (row : Record) → IsChoiceList (record { codes = apps; rows = rows }) → taken_cause progs apps rows row ≡ None
    → length (with_code apps (field_of row 0)) ≤ MAX_APPLICANTS → IsChoiceList (record { codes = with_code apps (field_of row 0); rows = rows ++ row_taken progs apps row ∷ [] })
kept_push progs apps rows row h right apps_few =
    let code = field_of row 0 in
    let more = with_code apps code in
    let at = numbered more code (code_added apps code) in
    let is = right_row progs apps rows row at.0 at.2 right in
    let same : number_among more code ≡ at.0 = rw at.2 refl in
    let lt = lt-ltb at.0 (length more) at.1 in
    kept_row apps code rows (row_taken progs apps row) h is.few apps_few is.coded (rw same at.2)
    (rw (same, lt, is.placed.0, is.placed.1, is.scored) refl) (rw same is.short) (rw same is.place) (rw same is.prog)

-- each row's applicant and programme are known
pub rows_within : (progs apps : List (List ℕ)) (before : List Record) → list_all (λ row. has_code apps (field_of row 0)) before ≡ true → list_all (λ row. has_code progs (field_of row 2)) before ≡ true
    → All (λ row. (row.app.0 < length apps) × (row.prog.0 < length progs)) (map (choice_of progs apps) before)
rows_within progs apps before known named = All-from_recursion (λ row. (row.app.0 < length apps) × (row.prog.0 < length progs)) (map (choice_of progs apps) before) (each progs apps before known named)
  where
    below : (codes : List (List ℕ)) (code : List ℕ) → has_code codes code ≡ true → number_among codes code < length codes
    below codes code h = let at = numbered codes code h in rw at.2 at.1

    each : (progs apps : List (List ℕ)) (before : List Record) → list_all (λ row. has_code apps (field_of row 0)) before ≡ true → list_all (λ row. has_code progs (field_of row 2)) before ≡ true
        → AllByRecursion (λ row. (row.app.0 < length apps) × (row.prog.0 < length progs)) (map (choice_of progs apps) before)
    each progs apps [] known named = tt
    each progs apps (row ∷ rows) known named =
        let k = and_parts (has_code apps (field_of row 0)) (list_all (λ r. has_code apps (field_of r 0)) rows) known in
        let n = and_parts (has_code progs (field_of row 2)) (list_all (λ r. has_code progs (field_of r 2)) rows) named in
        ((below apps (field_of row 0) k.0, below progs (field_of row 2) n.0), each progs apps rows k.1 n.1)

-- what no two rows of one applicant share stands once among the rows of each
own_once : (g : ChoiceRow → ℕ) (rows : List ChoiceRow) (app : ℕ) → IsDistinct (λ row other. nat_eq row.app.0 other.app.0 && nat_eq (g row) (g other)) rows
    → IsDistinct nat_eq (map g (rows_of_app app rows))
unfolding IsDistinct
own_once g [] app h = tt
own_once g (row ∷ rows) app h = elim (eqb_tells row.app.0 app) [
  | inl e ↦ rw e.0 (apart g row rows app e.1 h.0, own_once g rows app h.1)
  | inr e ↦ rw e.0 (own_once g rows app h.1)
]
  where
    second : (a b : Bool) → a ≡ true → (a && b) ≡ false → b ≡ false
    second true b t h = h
    second false b t h = absurd (true≢false (sym t))

    apart : (g : ChoiceRow → ℕ) (row : ChoiceRow) (rows : List ChoiceRow) (app : ℕ) → row.app.0 ≡ app
        → AllByRecursion (λ other. (nat_eq row.app.0 other.app.0 && nat_eq (g row) (g other)) ≡ false) rows → AllByRecursion (λ n. nat_eq (g row) n ≡ false) (map g (rows_of_app app rows))
    apart g row [] app same h = tt
    apart g row (other ∷ rows) app same h = elim (eqb_tells other.app.0 app) [
      | inl e ↦ rw e.0 (second (nat_eq row.app.0 other.app.0) (nat_eq (g row) (g other)) (agree row.app.0 other.app.0 (same ∙ sym e.1)) h.0, apart g row rows app same h.1)
      | inr e ↦ rw e.0 (apart g row rows app same h.1)
    ]

-- so no place and no programme stands twice among the rows of an applicant
pub places_once : (list : ChoiceList) (app : ℕ) → IsChoiceList list → IsDistinct nat_eq (map (λ row. row.place) (rows_of_app app list.rows))
places_once list app h = own_once (λ row. row.place) list.rows app h.places

pub progs_once : (list : ChoiceList) (app : ℕ) → IsChoiceList list → IsDistinct nat_eq (map (λ row. row.prog.0) (rows_of_app app list.rows))
progs_once list app h = own_once (λ row. row.prog.0) list.rows app h.progs
