-- The rows of an applicant are those of the records that have the same code.
use Rattle.std.proofs.Common.{◌≡◌, ◌∙◌, ◌<◌, ◌+◌, ◌++◌, ◌⊎◌, ℕ, Bool, true, false, not, nat_eq, List, [], ◌∷◌, length, map, get_or, Some, None, refl, sym, ap, arith, inl, inr, true≢false, length-append}
use Rattle.std.specs.Prelude.{filter}
use Rattle.std.specs.List.{fold, list_all, list_any}
use Rattle.std.specs.Str.{bytes_eq}
use Rattle.std.proofs.lemmas.Bool.{cases_Bool, and_parts}
use Rattle.std.proofs.lemmas.Slice.Eq.{bytes_eq-Decides}
use Rattle.std.proofs.lemmas.List.{map-append, length-map}
use Rattle.std.proofs.lemmas.List.Folds.{list_any-append, list_all-append}
use Rattle.std.proofs.lemmas.List.Sums.{fold_push}
use Rattle.sl_codes.specs.declared.faults.Cause.TheVariants.{UnknownProgramme}
use Rattle.sl_codes.specs.Codes.{has_code, number_of, with_code}
use Rattle.sl_codes.specs.Faults.{record_cause, name_cause}
use Rattle.sl_codes.specs.Records.{Record, field_of, codes_of}
use Rattle.sl_codes.proofs.FirstFault.{neither, unbroken}
use Rattle.sl_codes.specs.Fields.{number_in}
use Rattle.sl_choices.specs.declared.choices.ChoiceRow.{ChoiceRow}
use Rattle.sl_choices.specs.Choices.{own_records, applicant_cause, list_cause, place_cause, prog_cause, has_prog, number_among, choice_fields_cause, choice_form, choice_of}
use Rattle.sl_choices.specs.Rows.{rows_of_app, takes_place, takes_prog, own_cause, row_cause, taken_cause, row_taken, IsDraft}
use Rattle.sl_codes.proofs.Lists.{any_map, differ, agree, first_found}
use Rattle.sl_choices.proofs.Lists.{place_found, get_push}

-- a code that is there has a number, at which it stands
pub numbered : (codes : List (List ℕ)) (code : List ℕ) → has_code codes code ≡ true → (n : ℕ) × (n < length codes) × (number_of codes code ≡ Some n) × (get_or codes n [] ≡ code)
numbered codes code h =
    let found = place_found (bytes_eq code) codes [] h in
    (found.0, found.1, first_found (bytes_eq code) codes found.0 [] found.1 found.2 found.3, sym ((bytes_eq-Decides code (get_or codes found.0 [])).0 found.3))

-- codes are the same where their numbers are
same_number : (codes : List (List ℕ)) (x y : List ℕ) (n : ℕ) → number_of codes x ≡ Some n → get_or codes n [] ≡ x → has_code codes y ≡ true → nat_eq (number_among codes y) n ≡ bytes_eq x y
same_number codes x y n number stands h =
    let other = numbered codes y h in
    rw other.2 (at codes x y n other.0 number stands other.2 other.3 (cases_Bool (bytes_eq x y)))
  where
    some : (m n : ℕ) → Some m ≡ Some n → m ≡ n
    some m n e = cc e

    at : (codes : List (List ℕ)) (x y : List ℕ) (n m : ℕ) → number_of codes x ≡ Some n → get_or codes n [] ≡ x → number_of codes y ≡ Some m → get_or codes m [] ≡ y
        → (bytes_eq x y ≡ true) ⊎ (bytes_eq x y ≡ false) → nat_eq m n ≡ bytes_eq x y
    at codes x y n m number stands other there (inl e) =
        let same = (bytes_eq-Decides x y).0 e in
        let also = rw (← same) at other in
        agree m n (some m n (sym also ∙ number)) ∙ sym e
    at codes x y n m number stands other there (inr e) =
        differ m n (λ q. true≢false (sym ((bytes_eq-Decides x y).1 (sym stands ∙ ap (λ k. get_or codes k []) (sym q) ∙ there)) ∙ e)) ∙ sym e

-- codes stay when one is added, and so do their numbers
pub code_stays : (codes : List (List ℕ)) (code x : List ℕ) → has_code codes x ≡ true → has_code (with_code codes code) x ≡ true
code_stays codes code x h = elim (cases_Bool (has_code codes code)) [
  | inl e ↦ rw e h
  | inr e ↦ rw e (list_any-append (bytes_eq x) codes (code ∷ []) ∙ rw h refl)
]

pub number_stays : (codes : List (List ℕ)) (code x : List ℕ) → has_code codes x ≡ true → number_of (with_code codes code) x ≡ number_of codes x
number_stays codes code x h = elim (cases_Bool (has_code codes code)) [
  | inl e ↦ rw e refl
  | inr e ↦
      let found = place_found (bytes_eq x) codes [] h in
      let longer : length (codes ++ code ∷ []) ≡ length codes + 1 = length-append codes (code ∷ []) in
      let was = first_found (bytes_eq x) codes found.0 [] found.1 found.2 found.3 in
      let is = first_found (bytes_eq x) (codes ++ code ∷ []) found.0 [] (omega (arith, longer, found.1))
      (λ k lt. rw (get_push codes code [] k (omega (arith, lt, found.1))) (found.2 k lt)) (rw (get_push codes code [] found.0 found.1) found.3) in
      rw e (is ∙ sym was)
]

-- and the code is there
pub code_added : (codes : List (List ℕ)) (code : List ℕ) → has_code (with_code codes code) code ≡ true
code_added codes code = elim (cases_Bool (has_code codes code)) [
  | inl e ↦ rw (e, e) refl
  | inr e ↦
      let self = (bytes_eq-Decides code code).1 refl in
      rw e (list_any-append (bytes_eq code) codes (code ∷ []) ∙ rw (e, self) refl)
]

-- rows of known applicants stay when one is added
rows_stay : (progs apps : List (List ℕ)) (code : List ℕ) (before : List Record) → list_all (λ row. has_code apps (field_of row 0)) before ≡ true
    → map (choice_of progs (with_code apps code)) before ≡ map (choice_of progs apps) before
rows_stay progs apps code [] h = refl
rows_stay progs apps code (row ∷ rows) h =
    let parts = and_parts (has_code apps (field_of row 0)) (list_all (λ row. has_code apps (field_of row 0)) rows) h in
    let here = number_stays apps code (field_of row 0) parts.0 in
    let later = rows_stay progs apps code rows parts.1 in
    rw (here, later) refl

known_stay : (apps : List (List ℕ)) (code : List ℕ) (before : List Record) → list_all (λ row. has_code apps (field_of row 0)) before ≡ true
    → list_all (λ row. has_code (with_code apps code) (field_of row 0)) before ≡ true
known_stay apps code [] h = refl
known_stay apps code (row ∷ rows) h =
    let parts = and_parts (has_code apps (field_of row 0)) (list_all (λ row. has_code apps (field_of row 0)) rows) h in
    let here = code_stays apps code (field_of row 0) parts.0 in
    let later = known_stay apps code rows parts.1 in
    rw (here, later) refl

-- the rows of the applicant with a number are those of the records with its code
own_rows : (progs apps : List (List ℕ)) (code : List ℕ) (n : ℕ) (before : List Record) → number_of apps code ≡ Some n → get_or apps n [] ≡ code
    → list_all (λ row. has_code apps (field_of row 0)) before ≡ true
    → rows_of_app n (map (choice_of progs apps) before) ≡ map (choice_of progs apps) (filter (λ other. bytes_eq code (field_of other 0)) before)
own_rows progs apps code n [] number stands h = refl
own_rows progs apps code n (row ∷ rows) number stands h =
    let parts = and_parts (has_code apps (field_of row 0)) (list_all (λ row. has_code apps (field_of row 0)) rows) h in
    let test = same_number apps code (field_of row 0) n number stands parts.0 in
    let later = own_rows progs apps code n rows number stands parts.1 in
    elim (cases_Bool (bytes_eq code (field_of row 0))) [
      | inl e ↦ let yes = test ∙ e in rw (yes, e, later) refl
      | inr e ↦ let no = test ∙ e in rw (no, e, later) refl
    ]

-- what all records have, those of one applicant have
all_own : (p q : Record → Bool) (before : List Record) → list_all p before ≡ true → list_all p (filter q before) ≡ true
all_own p q [] h = refl
all_own p q (row ∷ rows) h =
    let parts = and_parts (p row) (list_all p rows) h in
    let later = all_own p q rows parts.1 in
    elim (cases_Bool (q row)) [
      | inl e ↦ rw (e, parts.0, later) refl
      | inr e ↦ rw (e, later) refl
    ]

-- a programme is among rows where its code is among their records
same_progs : (progs : List (List ℕ)) (code : List ℕ) (n : ℕ) (own : List Record) → number_of progs code ≡ Some n → get_or progs n [] ≡ code
    → list_all (λ row. has_code progs (field_of row 2)) own ≡ true
    → list_any (λ other. nat_eq (number_among progs (field_of other 2)) n) own ≡ list_any (λ other. bytes_eq code (field_of other 2)) own
same_progs progs code n [] number stands h = refl
same_progs progs code n (row ∷ rows) number stands h =
    let parts = and_parts (has_code progs (field_of row 2)) (list_all (λ row. has_code progs (field_of row 2)) rows) h in
    let here = same_number progs code (field_of row 2) n number stands parts.0 in
    let later = same_progs progs code n rows number stands parts.1 in
    rw (here, later) refl

prog_alike : (progs apps : List (List ℕ)) (row : Record) (own : List Record) → list_all (λ row. has_code progs (field_of row 2)) own ≡ true
    → prog_cause progs (takes_prog (number_among progs (field_of row 2)) (map (choice_of progs apps) own)) (field_of row 2) ≡ prog_cause progs (has_prog own row) (field_of row 2)
prog_alike progs apps row own h = elim (cases_Bool (has_code progs (field_of row 2))) [
  | inl e ↦
      let at = numbered progs (field_of row 2) e in
      let taken = any_map (choice_of progs apps) (λ other. nat_eq other.prog.0 at.0) own ∙ same_progs progs (field_of row 2) at.0 own at.2 at.3 h in
      rw (at.2, taken) refl
  | inr e ↦ rw e refl
]

-- what is wrong with the fields of a record, by the records before it and by their rows
pub fields_alike : (progs : List (List ℕ)) (before : List Record) (apps : List (List ℕ)) (rows : List ChoiceRow) (row : Record) → IsDraft progs before apps rows
    → choice_fields_cause progs before row ≡ row_cause progs apps rows row
fields_alike progs before apps rows row draft =
    let code = field_of row 0 in
    let more = with_code apps code in
    let own = own_records before row in
    let at = numbered more code (code_added apps code) in
    let wide : rows ≡ map (choice_of progs more) before = draft.rows_are ∙ sym (rows_stay progs apps code before draft.known) in
    let mine : rows_of_app at.0 rows ≡ map (choice_of progs more) own = ap (rows_of_app at.0) wide ∙ own_rows progs more code at.0 before at.2 at.3 (known_stay apps code before draft.known) in
    let count = length-map own (choice_of progs more) in
    let places = any_map (choice_of progs more) (λ other. nat_eq other.place (number_in (field_of row 1))) own in
    let named = prog_alike progs more row own (all_own (λ row. has_code progs (field_of row 2)) (λ other. bytes_eq code (field_of other 0)) before draft.named) in
    rw (← draft.apps_are, at.2, mine, count, places, named) refl

-- and with the record
pub causes_alike : (progs : List (List ℕ)) (before : List Record) (apps : List (List ℕ)) (rows : List ChoiceRow) (row : Record) → IsDraft progs before apps rows
    → record_cause (choice_form progs) before row ≡ taken_cause progs apps rows row
causes_alike progs before apps rows row draft =
    let count : length rows ≡ length before = ap length draft.rows_are ∙ length-map before (choice_of progs apps) in
    let fields = fields_alike progs before apps rows row draft in
    rw (fields, count) refl

-- in a record that was taken nothing is wrong with its fields
pub row_right : (progs apps : List (List ℕ)) (rows : List ChoiceRow) (row : Record) → taken_cause progs apps rows row ≡ None → row_cause progs apps rows row ≡ None
row_right progs apps rows row h = (neither _ _ (neither _ _ h).1).1

-- its programme is known
own_known : (progs : List (List ℕ)) (own : List ChoiceRow) (row : Record) → own_cause progs own row ≡ None → has_code progs (field_of row 2) ≡ true
own_known progs own row h =
    let list = neither (list_cause (length own)) _ h in
    let place = neither (place_cause (takes_place (number_in (field_of row 1)) own) (field_of row 1)) _ list.1 in
    let prog = neither (prog_cause progs (takes_prog (number_among progs (field_of row 2)) own) (field_of row 2)) _ place.1 in
    not_false (has_code progs (field_of row 2)) (unbroken (not (has_code progs (field_of row 2))) UnknownProgramme (neither (name_cause UnknownProgramme progs (field_of row 2)) _ prog.0).0)
  where
    not_false : (b : Bool) → not b ≡ false → b ≡ true
    not_false true e = refl
    not_false false e = absurd (true≢false e)

pub prog_known : (progs apps : List (List ℕ)) (rows : List ChoiceRow) (row : Record) → taken_cause progs apps rows row ≡ None → has_code progs (field_of row 2) ≡ true
prog_known progs apps rows row h =
    own_known progs (rows_of_app (number_among (with_code apps (field_of row 0)) (field_of row 0)) rows) row
    (neither (applicant_cause apps (field_of row 0)) _ (row_right progs apps rows row h)).1

-- nothing was read
pub draft_none : (progs : List (List ℕ)) → IsDraft progs [] [] []
draft_none progs = record { apps_are = refl; rows_are = refl; known = refl; named = refl }

-- one more record was read
pub draft_push : (progs : List (List ℕ)) (before : List Record) (apps : List (List ℕ)) (rows : List ChoiceRow) (row : Record) → IsDraft progs before apps rows → has_code progs (field_of row 2) ≡ true
    → IsDraft progs (before ++ row ∷ []) (with_code apps (field_of row 0)) (rows ++ row_taken progs apps row ∷ [])
draft_push progs before apps rows row draft known =
    let code = field_of row 0 in
    let more = with_code apps code in
    record {
      apps_are = sym (ap (fold with_code []) (map-append (λ r. field_of r 0) before (row ∷ [])) ∙ fold_push with_code [] (codes_of before) code ∙ rw (← draft.apps_are) refl);
      rows_are = ap (λ rs. rs ++ row_taken progs apps row ∷ []) (draft.rows_are ∙ sym (rows_stay progs apps code before draft.known)) ∙ sym (map-append (choice_of progs more) before (row ∷ []));
      known = list_all-append (λ r. has_code more (field_of r 0)) before (row ∷ []) ∙ rw (known_stay apps code before draft.known, code_added apps code) refl;
      named = list_all-append (λ r. has_code progs (field_of r 2)) before (row ∷ []) ∙ rw (draft.named, known) refl;
    }
