-- The lists of applicants while they are made.
use Rattle.std.proofs.Common.{◌≡◌, ◌<◌, ◌+◌, ◌++◌, ℕ, List, [], ◌∷◌, map, length, get_or, reverse, sym, subst, below_more}
use Rattle.std.proofs.Math.Seq.{get_or-append_seam}
use Rattle.std.proofs.lemmas.List.{get_or_append_left}
use Rattle.std.proofs.lemmas.List.Sorted.{IsPermutation-map, IsPermutation-reverse, IsPermutation-trans}
use Rattle.sl_types.specs.declared.kinds.Entry.{Entry}
use Rattle.sl_choices.specs.declared.choices.ChoiceRow.{ChoiceRow}
use Rattle.sl_choices.specs.Rows.{rows_of_app}
use Rattle.sl_instance.specs.Assembly.{entry_of}
use Rattle.sl_instance.specs.Lists.{IsSortedOf}

-- the choices of an applicant among rows
abbrev pub chosen : ℕ → List ChoiceRow → List Entry
chosen a rows = map entry_of (rows_of_app a rows)

-- what is sorted of rows from the last to the first is sorted of the rows
pub sorted_back : (rows : List ChoiceRow) (es : List Entry) → IsSortedOf (map entry_of (reverse rows)) es → IsSortedOf (map entry_of rows) es
sorted_back rows es h = record {
  same = IsPermutation-trans _ _ _ (IsPermutation-map entry_of rows (reverse rows) (IsPermutation-reverse rows)) h.same;
  sorted = h.sorted;
}

-- one more sorted list
pub sorted_push : (rows : List ChoiceRow) (lists : List (List Entry)) (es : List Entry) (n : ℕ) → length lists ≡ n → IsSortedOf (chosen n rows) es
    → ((a : ℕ) → a < n → IsSortedOf (chosen a rows) (get_or lists a [])) → (a : ℕ) → a < n + 1 → IsSortedOf (chosen a rows) (get_or (lists ++ es ∷ []) a [])
sorted_push rows lists es n each new done =
    let last : get_or (lists ++ es ∷ []) n [] ≡ es = rw (← each) (get_or-append_seam lists es [] []) in
    below_more _ _ (λ a less. subst (λ (own : List Entry). IsSortedOf (chosen a rows) own) (sym (get_or_append_left lists (es ∷ []) [] a (rw each less))) (done a less))
    (subst (λ (own : List Entry). IsSortedOf (chosen n rows) own) (sym last) new)
