-- Rows of applicants that are linked.
use Rattle.std.proofs.Common.{◌≡◌, ◌∙◌, ◌<◌, ◌≤◌, ◌+◌, ◌-◌, ◌++◌, ◌⊎◌, ℕ, suc, nat_eq, List, [], ◌∷◌, length, take, get_or, set, reverse, refl, sym, ap, arith, inl, inr, length-append, append-nil, append_assoc}
use Rattle.std.proofs.lemmas.Bool.Decides.{eqb_tells}
use Rattle.std.proofs.lemmas.List.{take_all, take_more, take-append-le, get_or-set_other, length-set, reverse-append}
use Rattle.std.proofs.lemmas.Grind.{get_or-set_at}
use Rattle.std.proofs.lemmas.List.Elements.{filter-append}
use Rattle.sl_choices.specs.declared.choices.ChoiceRow.{ChoiceRow}
use Rattle.sl_choices.specs.Chains.{no_row, IsLast, AreLinked}
use Rattle.sl_choices.specs.Rows.{rows_of_app}
use Rattle.sl_codes.proofs.Lists.{differ, agree}
use Rattle.sl_choices.proofs.Lists.{get_push, get_last, before_or_last}

-- one more row of the applicant, or of another
pub own_push : (app : ℕ) (rows : List ChoiceRow) (row : ChoiceRow) → row.app.0 ≡ app → rows_of_app app (rows ++ row ∷ []) ≡ rows_of_app app rows ++ row ∷ []
own_push app rows row same = let yes = agree row.app.0 app same in filter-append (λ row. nat_eq row.app.0 app) rows (row ∷ []) ∙ rw yes refl

pub other_push : (app : ℕ) (rows : List ChoiceRow) (row : ChoiceRow) → (row.app.0 ≡ app → ⊥) → rows_of_app app (rows ++ row ∷ []) ≡ rows_of_app app rows
other_push app rows row apart = let no = differ row.app.0 app apart in filter-append (λ row. nat_eq row.app.0 app) rows (row ∷ []) ∙ rw no (append-nil (rows_of_app app rows))

-- an applicant above all has no row
pub no_rows : (app : ℕ) (rows : List ChoiceRow) → ((k : ℕ) → k < length rows → (get_or rows k no_row).app.0 < app) → rows_of_app app rows ≡ []
no_rows app [] h = refl
no_rows app (row ∷ rows) h =
    let less : row.app.0 < app = h 0 (omega arith) in
    let no = differ row.app.0 app (λ e. absurd (omega (arith, e, less))) in
    rw no (no_rows app rows (λ k lt. h (suc k) (omega (arith, lt))))

-- a link stays when a row is added after it
last_push : (rows : List ChoiceRow) (row : ChoiceRow) (app n link : ℕ) → n ≤ length rows → IsLast rows app n link → IsLast (rows ++ row ∷ []) app n link
last_push rows row app n link le h =
    let within : link ≤ length rows = omega (arith, h.within, le) in
    record {
      within = h.within;
      none_later = rw (take-append-le n rows (row ∷ []) le, take-append-le link rows (row ∷ []) within) h.none_later;
      own = λ pos. rw (get_push rows row no_row (link - 1) (omega (arith, pos, within))) (h.own pos);
    }

-- and is to the last row still when that row is another applicant's
last_other : (rows : List ChoiceRow) (row : ChoiceRow) (app link : ℕ) → (row.app.0 ≡ app → ⊥) → IsLast rows app (length rows) link → IsLast (rows ++ row ∷ []) app (length (rows ++ row ∷ [])) link
last_other rows row app link apart h =
    let longer : length (rows ++ row ∷ []) ≡ length rows + 1 = length-append rows (row ∷ []) in
    let all = rw (take_all (length rows) rows (omega arith)) at h.none_later in
    record {
      within = rw longer (omega (arith, h.within));
      none_later = rw (take_all (length (rows ++ row ∷ [])) (rows ++ row ∷ []) (omega arith), take-append-le link rows (row ∷ []) h.within) (other_push app rows row apart ∙ all);
      own = λ pos. rw (get_push rows row no_row (link - 1) (omega (arith, pos, h.within))) (h.own pos);
    }

-- the row that is added is the last
last_new : (rows : List ChoiceRow) (row : ChoiceRow) (app : ℕ) → row.app.0 ≡ app → IsLast (rows ++ row ∷ []) app (length (rows ++ row ∷ [])) (length rows + 1)
last_new rows row app same =
    let longer : length (rows ++ row ∷ []) ≡ length rows + 1 = length-append rows (row ∷ []) in
    let place : length rows + 1 - 1 ≡ length rows = omega arith in
    record {
      within = rw longer (omega arith);
      none_later = rw longer refl;
      own = λ pos. rw (get_last rows row no_row (length rows + 1 - 1) place) same;
    }

-- one more applicant
pub linked_applicant : (rows : List ChoiceRow) (last before : List ℕ) → AreLinked rows last before → AreLinked rows (last ++ 0 ∷ []) before
linked_applicant rows last before h = record {
  each = h.each;
  apps = λ k lt. omega (arith, h.apps k lt, length-append last (0 ∷ []));
  to_last = λ app lt. at rows last before h app (before_or_last app (length last) (omega (arith, lt, length-append last (0 ∷ []))));
  to_before = h.to_before;
}
  where
    at : (rows : List ChoiceRow) (last before : List ℕ) → AreLinked rows last before → (app : ℕ) → (app < length last) ⊎ (app ≡ length last) → IsLast rows app (length rows) (get_or (last ++ 0 ∷ []) app 0)
    at rows last before h app (inl below) = rw (get_push last 0 0 app below) (h.to_last app below)
    at rows last before h app (inr same) = rw (get_last last 0 0 app same) (record {
      within = omega arith;
      none_later = rw (take_all (length rows) rows (omega arith)) (no_rows app rows (λ k lt. omega (arith, h.apps k lt, same)));
      own = λ pos. absurd (omega (arith, pos));
    })

-- one more row
pub linked_row : (rows : List ChoiceRow) (last before : List ℕ) (row : ChoiceRow) → AreLinked rows last before → row.app.0 < length last
    → AreLinked (rows ++ row ∷ []) (set last row.app.0 (length rows + 1)) (before ++ get_or last row.app.0 0 ∷ [])
linked_row rows last before row h known = record {
  each = omega (arith, length-append rows (row ∷ []), length-append before (get_or last row.app.0 0 ∷ []), h.each);
  apps = λ k lt. app_at rows last before row h known k (before_or_last k (length rows) (omega (arith, lt, length-append rows (row ∷ []))));
  to_last = λ app lt. last_at rows last before row h app (omega (arith, lt, length-set last row.app.0 (length rows + 1)));
  to_before = λ k lt. before_at rows last before row h known k (before_or_last k (length rows) (omega (arith, lt, length-append rows (row ∷ []))));
}
  where
    app_at : (rows : List ChoiceRow) (last before : List ℕ) (row : ChoiceRow) → AreLinked rows last before → row.app.0 < length last → (k : ℕ) → (k < length rows) ⊎ (k ≡ length rows)
        → (get_or (rows ++ row ∷ []) k no_row).app.0 < length (set last row.app.0 (length rows + 1))
    app_at rows last before row h known k (inl below) = rw (get_push rows row no_row k below, length-set last row.app.0 (length rows + 1)) (h.apps k below)
    app_at rows last before row h known k (inr same) = rw (get_last rows row no_row k same, length-set last row.app.0 (length rows + 1)) known

    last_at : (rows : List ChoiceRow) (last before : List ℕ) (row : ChoiceRow) → AreLinked rows last before → (app : ℕ) → app < length last
        → IsLast (rows ++ row ∷ []) app (length (rows ++ row ∷ [])) (get_or (set last row.app.0 (length rows + 1)) app 0)
    last_at rows last before row h app lt = elim (eqb_tells row.app.0 app) [
      | inl e ↦ rw (get_or-set_at last row.app.0 app (length rows + 1) 0 (sym e.1) (omega (arith, e.1, lt))) (last_new rows row app e.1)
      | inr e ↦ rw (get_or-set_other last row.app.0 app (length rows + 1) 0 (λ s. e.1 (sym s))) (last_other rows row app (get_or last app 0) e.1 (h.to_last app lt))
    ]

    before_at : (rows : List ChoiceRow) (last before : List ℕ) (row : ChoiceRow) → AreLinked rows last before → row.app.0 < length last → (k : ℕ) → (k < length rows) ⊎ (k ≡ length rows)
        → IsLast (rows ++ row ∷ []) (get_or (rows ++ row ∷ []) k no_row).app.0 k (get_or (before ++ get_or last row.app.0 0 ∷ []) k 0)
    before_at rows last before row h known k (inl below) =
        rw (get_push rows row no_row k below, get_push before (get_or last row.app.0 0) 0 k (omega (arith, below, h.each)))
        (last_push rows row (get_or rows k no_row).app.0 k (get_or before k 0) (omega (arith, below)) (h.to_before k below))
    before_at rows last before row h known k (inr same) =
        rw (get_last rows row no_row k same, get_last before (get_or last row.app.0 0) 0 k (omega (arith, same, h.each)), same)
        (last_push rows row row.app.0 (length rows) (get_or last row.app.0 0) (omega arith) (h.to_last row.app.0 known))

-- the walk begins at the applicant's last row
pub walk_start : (rows : List ChoiceRow) (app link : ℕ) → IsLast rows app (length rows) link → reverse (rows_of_app app rows) ≡ reverse (rows_of_app app (take link rows))
walk_start rows app link h = let all = rw (take_all (length rows) rows (omega arith)) at h.none_later in ap reverse all

-- and takes one more
pub walk_step : (rows own all : List ChoiceRow) (app m next : ℕ) → m < length rows → (get_or rows m no_row).app.0 ≡ app → IsLast rows (get_or rows m no_row).app.0 m next
    → all ≡ own ++ reverse (rows_of_app app (take (m + 1) rows)) → all ≡ (own ++ get_or rows m no_row ∷ []) ++ reverse (rows_of_app app (take next rows))
walk_step rows own all app m next lt same last so_far =
    let row = get_or rows m no_row in
    let earlier = rw same at last.none_later in
    let more : rows_of_app app (take (m + 1) rows) ≡ rows_of_app app (take next rows) ++ row ∷ [] = ap (rows_of_app app) (take_more rows m no_row lt) ∙ own_push app (take m rows) row same ∙ ap (λ rs. rs ++ row ∷ []) earlier in
    so_far ∙ ap (λ rs. own ++ rs) (ap reverse more ∙ reverse-append (rows_of_app app (take next rows)) (row ∷ [])) ∙ sym (append_assoc own (row ∷ []) (reverse (rows_of_app app (take next rows))))

pub walk_end : (rows own all : List ChoiceRow) (app link : ℕ) → link ≡ 0 → all ≡ own ++ reverse (rows_of_app app (take link rows)) → own ≡ all
walk_end rows own all app link none so_far = sym (so_far ∙ rw none (append-nil own))
