-- The first fault, by the place of its record.
use Rattle.std.proofs.Common.{◌≡◌, ◌∙◌, sym, ap, refl, arith, ℕ, zero, suc, ◌+◌, ◌<◌, List, [], ◌∷◌, ◌++◌, length, take, get_or, Option, Some, None, append_assoc, append-nil, length-append}
use Rattle.sl_codes.specs.declared.faults.Cause.{Cause}
use Rattle.sl_codes.specs.Faults.{Form, record_cause, first_fault_after, fault_at}
use Rattle.sl_codes.specs.Laws.{FirstFaultSays}
use Rattle.sl_codes.specs.Records.{Record}

-- the same, of records that stand after others
after : Form → List Record → List Record → ℕ → Option Cause
after form before rows k = record_cause form (before ++ take k rows) (get_or rows k [])

-- the records before the next one, with it
onward : (form : Form) (before : List Record) (row : Record) (rest : List Record) (k : ℕ) → after form before (row ∷ rest) (suc k) ≡ after form (before ++ row ∷ []) rest k
unfolding after
onward form before row rest k = ap (λ rows. record_cause form rows (get_or rest k [])) (sym (append_assoc before (row ∷ []) (take k rest)))

here : (form : Form) (before : List Record) (row : Record) (rest : List Record) → after form before (row ∷ rest) 0 ≡ record_cause form before row
unfolding after
here form before row rest = ap (λ rows. record_cause form rows row) (append-nil before)

found_after : (form : Form) (before rows : List Record) (k : ℕ) (cause : Cause) → k < length rows → ((j : ℕ) → j < k → after form before rows j ≡ None)
    → after form before rows k ≡ Some cause → first_fault_after form before rows ≡ Some (fault_at form.table (length before + k) cause)
unfolding first_fault_after
found_after form before [] k cause lt none some = absurd (omega (arith, lt))
found_after form before (row ∷ rest) zero cause lt none some =
    let wrong = sym (here form before row rest) ∙ some in
    let place : length before + 0 ≡ length before = omega arith in
    rw (wrong, place) refl
found_after form before (row ∷ rest) (suc k) cause lt none some =
    let right = sym (here form before row rest) ∙ none 0 (omega arith) in
    let place : length (before ++ row ∷ []) + k ≡ length before + suc k = omega (arith, length-append before (row ∷ [])) in
    let ih = found_after form (before ++ row ∷ []) rest k cause (omega (arith, lt)) (λ j below. sym (onward form before row rest j) ∙ none (suc j) (omega (arith, below))) (sym (onward form before row rest k) ∙ some) in
    rw (right, ← place) ih

none_after : (form : Form) (before rows : List Record) → ((j : ℕ) → j < length rows → after form before rows j ≡ None) → first_fault_after form before rows ≡ None
unfolding first_fault_after
none_after form before [] none = refl
none_after form before (row ∷ rest) none =
    let right = sym (here form before row rest) ∙ none 0 (omega arith) in
    rw right (none_after form (before ++ row ∷ []) rest (λ j below. sym (onward form before row rest j) ∙ none (suc j) (omega (arith, below))))

pub first_fault_says : FirstFaultSays
unfolding after
first_fault_says = record {
  found = λ form rows k cause lt none some. let place : 0 + k ≡ k = omega arith in found_after form [] rows k cause lt none some ∙ ap (λ n. Some (fault_at form.table n cause)) place;
  none = λ form rows none. none_after form [] rows none;
}
