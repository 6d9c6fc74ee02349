-- Records of the two tables, taken one after another.
use Rattle.std.proofs.Common.{◌≡◌, ◌∙◌, sym, ap, refl, ℕ, ◌<◌, Bool, not, List, [], ◌∷◌, ◌++◌, length, map, None}
use Rattle.std.proofs.lemmas.List.{map-append, length-map}
use Rattle.sl_types.specs.declared.kinds.TheConstants.{MAX_PROGRAMMES}
use Rattle.sl_codes.specs.declared.faults.Cause.TheVariants.{RepeatedProgramme, UnknownPool}
use Rattle.sl_codes.specs.Codes.{has_code}
use Rattle.sl_codes.specs.Faults.{record_cause, new_code_cause, cause_if}
use Rattle.sl_codes.specs.Records.{Record, field_of, codes_of}
use Rattle.sl_codes.proofs.FirstFault.{record_cause-fields}
use Rattle.sl_pools.specs.Programmes.{programme_form}

-- there are as many codes as records
pub length-codes_of : (rows : List Record) → length (codes_of rows) ≡ length rows
length-codes_of rows = length-map rows (λ row. field_of row 0)

-- a programme with a new code is right where its pool is known
pub programme_cause : (pools codes : List (List ℕ)) (before : List Record) (row : Record) (known : Bool) → codes ≡ codes_of before → length row ≡ 2 → length codes < MAX_PROGRAMMES
    → new_code_cause RepeatedProgramme codes (field_of row 0) ≡ None → known ≡ has_code pools (field_of row 1)
    → record_cause (programme_form pools) before row ≡ cause_if (not known) UnknownPool
programme_cause pools codes before row known same width room new found =
    let few : length before < MAX_PROGRAMMES = rw (same, length-codes_of before) at room in
    let fresh = rw same at new in
    record_cause-fields (programme_form pools) before row width few ∙ rw (fresh, ← found) refl

-- a list that is mapped from records, with one more
pub map_push : {A B : Type 0} (f : A → B) (old new : List B) (xs : List A) (x : A) → old ≡ map f xs → new ≡ old ++ f x ∷ [] → new ≡ map f (xs ++ x ∷ [])
map_push f old new xs x same more = more ∙ ap (λ ys. ys ++ f x ∷ []) same ∙ sym (map-append f xs (x ∷ []))
