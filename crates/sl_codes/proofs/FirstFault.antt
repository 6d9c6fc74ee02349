-- From what a reader finds record by record to the first fault of the file.
use Rattle.std.proofs.Common.{◌≡◌, ◌∙◌, sym, ap, refl, arith, ℕ, ◌<◌, ◌≤◌, ◌==◌, Bool, true, false, not, nat_le, List, [], ◌∷◌, ◌++◌, length, map, drop, Option, Some, None, option_map, inl, inr, append-nil, append_assoc, true≢false}
use Rattle.std.specs.Option.{option_or}
use Rattle.std.specs.List.{list_all}
use Rattle.std.specs.Str.{is_utf8}
use Rattle.std.proofs.lemmas.List.Folds.{list_all-map}
use Rattle.std.proofs.lemmas.Bool.{cases_Bool, leb-true}
use Rattle.std.proofs.lemmas.Bool.Decides.{eqb_tells}
use Rattle.sl_codes.specs.declared.faults.Cause.{Cause}
use Rattle.sl_codes.specs.declared.faults.Cause.TheVariants.{NotText, BadCode}
use Rattle.sl_codes.specs.declared.faults.RowError.{RowError}
use Rattle.sl_codes.specs.declared.faults.ReadError.{ReadError}
use Rattle.sl_codes.specs.Faults.{Form, cause_if, code_cause, new_code_cause, record_cause, first_fault_after, first_fault, fault_at, has_header, header_fault, read_error, IsFirst, IsWrong}
use Rattle.sl_codes.specs.Codes.{has_code}
use Rattle.sl_codes.specs.Fields.{is_code}
use Rattle.sl_codes.specs.Records.{Record}

-- what is wrong with a record that has the right number of fields and is not one too many is wrong with its fields
pub record_cause-fields : (form : Form) (before : List Record) (row : Record) → length row ≡ length form.header → length before < form.most
    → record_cause form before row ≡ form.fields_cause before row
record_cause-fields form before row width room =
    let same : (length row == length form.header) ≡ true = rw width (eqb_refl (length form.header)) in
    let fits : nat_le form.most (length before) ≡ false = not_above form.most (length before) room in
    rw (same, fits) refl
  where
    eqb_refl : (n : ℕ) → (n == n) ≡ true
    eqb_refl n = elim (eqb_tells n n) [ inl e ↦ e.0 | inr e ↦ absurd (e.1 refl) ]

    lt_le : (m n : ℕ) → n < m → m ≤ n → ⊥
    lt_le m n h k = omega (arith, h, k)

    not_above : (m n : ℕ) → n < m → nat_le m n ≡ false
    not_above m n h = elim (cases_Bool (nat_le m n)) [
      | inl e ↦ absurd (lt_le m n h (leb-true m n e))
      | inr e ↦ e
    ]

-- a file of which these records were read and are right, and these are left
pub record IsReadTo (form : Form) (records read left : List Record) : Type 0 where
  pub rows : drop 1 records ≡ read ++ left
  pub fault : first_fault form records ≡ first_fault_after form read left

-- the header was read
pub read_to-header : (form : Form) (records : List Record) → has_header form.header records ≡ true → IsReadTo form records [] (drop 1 records)
read_to-header form records h = record { rows = refl; fault = rw h refl }

-- one more record is right
pub read_to-right : (form : Form) (records read left : List Record) (row : Record) (rest : List Record) → IsReadTo form records read left → left ≡ row ∷ rest
    → record_cause form read row ≡ None → IsReadTo form records (read ++ row ∷ []) rest
unfolding first_fault_after
read_to-right form records read left row rest so_far next right = record {
  rows = so_far.rows ∙ ap (λ l. read ++ l) next ∙ sym (append_assoc read (row ∷ []) rest);
  fault = so_far.fault ∙ rw (next, right) refl;
}

-- none is left, and all were right
pub read_to-end : (form : Form) (records read left : List Record) → IsReadTo form records read left → left ≡ [] → (first_fault form records ≡ None) × (drop 1 records ≡ read)
unfolding first_fault_after
read_to-end form records read left so_far none = (so_far.fault ∙ rw none refl, so_far.rows ∙ rw none (append-nil read))

-- the next record is wrong
pub read_to-wrong : (form : Form) (records read left : List Record) (row : Record) (rest : List Record) (e : RowError) → IsReadTo form records read left → left ≡ row ∷ rest
    → IsWrong (record_cause form read row) e → IsFirst (first_fault form records) (read_error form.table (length read) e)
unfolding first_fault_after
read_to-wrong form records read left row rest (RowError.Bad cause) so_far next wrong = so_far.fault ∙ rw (next, wrong) refl
read_to-wrong form records read left row rest RowError.OutOfMemory so_far next wrong = tt

-- a file that doesn't begin with the header has no earlier fault
pub header_first : (form : Form) (records : List Record) (e : ReadError) → IsFirst (header_fault form.table form.header records) e → IsFirst (first_fault form records) e
header_first form records (ReadError.Bad fault) h = rw h refl
header_first form records ReadError.OutOfMemory h = tt

-- where no cause is given nothing is broken
pub unbroken : (broken : Bool) (cause : Cause) → cause_if broken cause ≡ None → broken ≡ false
unbroken true cause h = cc h
unbroken false cause h = refl

-- two that give nothing
pub neither : {A : Type 0} (a b : Option A) → option_or a b ≡ None → (a ≡ None) × (b ≡ None)
neither None b h = (refl, h)
neither (Some x) b h = cc h

-- a field in which nothing is wrong is a code
pub code_right : (field : List ℕ) → code_cause field ≡ None → is_code field ≡ true
code_right field h = not_false (is_code field) (unbroken (not (is_code field)) BadCode (neither (cause_if (not (is_utf8 field)) NotText) (cause_if (not (is_code field)) BadCode) h).1)
  where
    not_false : (b : Bool) → not b ≡ false → b ≡ true
    not_false true e = refl
    not_false false e = absurd (true≢false e)

-- what the fields of a right record have, all records have where none is wrong
pub right_rows : (form : Form) (p : Record → Bool) → ((before : List Record) (row : Record) → form.fields_cause before row ≡ None → p row ≡ true)
    → (before rest : List Record) → first_fault_after form before rest ≡ None → list_all p rest ≡ true
unfolding first_fault_after
right_rows form p has before [] h = refl
right_rows form p has before (row ∷ rest) h =
    let both = neither (option_map (fault_at form.table (length before)) (record_cause form before row)) (first_fault_after form (before ++ row ∷ []) rest) h in
    let cause = none_mapped (fault_at form.table (length before)) (record_cause form before row) both.0 in
    let fields = (neither _ _ (neither _ _ cause).1).1 in
    let later = right_rows form p has (before ++ row ∷ []) rest both.1 in
    rw (has before row fields, later) refl
  where
    none_mapped : {A B : Type 0} (f : A → B) (o : Option A) → option_map f o ≡ None → o ≡ None
    none_mapped f None e = refl
    none_mapped f (Some x) e = cc e

-- and the records of a file without a fault
pub right_file : (form : Form) (p : Record → Bool) → ((before : List Record) (row : Record) → form.fields_cause before row ≡ None → p row ≡ true)
    → (records : List Record) → first_fault form records ≡ None → list_all p (drop 1 records) ≡ true
right_file form p has records h = right_rows form p has [] (drop 1 records) (neither (header_fault form.table form.header records) (first_fault_after form [] (drop 1 records)) h).1

-- a new code is a code
pub new_code_right : (repeated : Cause) (codes : List (List ℕ)) (field : List ℕ) → new_code_cause repeated codes field ≡ None → is_code field ≡ true
new_code_right repeated codes field h = code_right field (neither (code_cause field) (cause_if (has_code codes field) repeated) h).0

pub all_mapped : {A B : Type 0} (f : A → B) (p : B → Bool) (xs : List A) → list_all (λ x. p (f x)) xs ≡ true → list_all p (map f xs) ≡ true
all_mapped f p xs h = list_all-map p f xs ∙ h
