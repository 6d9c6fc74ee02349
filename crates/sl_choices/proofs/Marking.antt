-- Marks of the rows of applicants.
use Rattle.std.proofs.Common.{◌≡◌, ◌<◌, ◌≤◌, ◌++◌, ◌⊎◌, ℕ, nat_eq, List, [], ◌∷◌, length, get_or, set, refl, sym, arith, inl, inr, length-append, true≢false}
use Rattle.std.proofs.lemmas.Bool.{cases_Bool}
use Rattle.std.proofs.lemmas.Bool.Decides.{eqb_tells}
use Rattle.std.proofs.lemmas.List.{get_or-set_other, length-set}
use Rattle.std.proofs.lemmas.Grind.{get_or-set_at}
use Rattle.sl_choices.specs.declared.choices.ChoiceRow.{ChoiceRow}
use Rattle.sl_choices.specs.declared.marks.Marks.{Marks}
use Rattle.sl_choices.specs.Marks.{no_marks, IsMarked, AreMarked}
use Rattle.sl_choices.specs.Rows.{rows_of_app}
use Rattle.sl_choices.proofs.Links.{own_push, other_push}
use Rattle.sl_choices.proofs.Lists.{get_push, get_last, before_or_last}

-- the rows of an applicant are among those of the table
pub few_own : (app : ℕ) (rows : List ChoiceRow) → length (rows_of_app app rows) ≤ length rows
few_own app [] = omega arith
few_own app (row ∷ rows) =
    let few = few_own app rows in
    elim (cases_Bool (nat_eq row.app.0 app)) [
      | inl e ↦ rw e (omega (arith, few))
      | inr e ↦ rw e (omega (arith, few))
    ]

-- the marks by applicant after one more applicant
pub marked_applicant : (rows : List ChoiceRow) (marks : List Marks) → rows_of_app (length marks) rows ≡ [] → AreMarked rows marks → AreMarked rows (marks ++ no_marks ∷ [])
marked_applicant rows marks none h app lt = at rows marks none h app (before_or_last app (length marks) (omega (arith, lt, length-append marks (no_marks ∷ []))))
  where
    unmarked : IsMarked [] no_marks
    unmarked = record {
      rows = refl;
      places = λ place taken. absurd (true≢false (sym taken));
      progs = λ prog taken. absurd (true≢false (sym taken));
    }

    at : (rows : List ChoiceRow) (marks : List Marks) → rows_of_app (length marks) rows ≡ [] → AreMarked rows marks → (app : ℕ) → (app < length marks) ⊎ (app ≡ length marks)
        → IsMarked (rows_of_app app rows) (get_or (marks ++ no_marks ∷ []) app no_marks)
    at rows marks none h app (inl below) = rw (get_push marks no_marks no_marks app below) (h app below)
    at rows marks none h app (inr same) = rw (get_last marks no_marks no_marks app same, same, none) unmarked

-- the marks by applicant after one more row
pub marked_row : (rows : List ChoiceRow) (marks : List Marks) (row : ChoiceRow) (more : Marks) → AreMarked rows marks
    → ((own : List ChoiceRow) → IsMarked own (get_or marks row.app.0 no_marks) → IsMarked (own ++ row ∷ []) more)
    → AreMarked (rows ++ row ∷ []) (set marks row.app.0 more)
marked_row rows marks row more h grows app lt =
    let below : app < length marks = omega (arith, lt, length-set marks row.app.0 more) in
    elim (eqb_tells row.app.0 app) [
      | inl e ↦
          let mine : IsMarked (rows_of_app app rows) (get_or marks row.app.0 no_marks) = rw e.1 (h app below) in
          rw (get_or-set_at marks row.app.0 app more no_marks (sym e.1) (omega (arith, e.1, below)), own_push app rows row e.1) (grows (rows_of_app app rows) mine)
      | inr e ↦ rw (get_or-set_other marks row.app.0 app more no_marks (λ s. e.1 (sym s)), other_push app rows row e.1) (h app below)
    ]
