-- Codes in first-seen order.
use Rattle.std.proofs.Common.{◌≡◌, ◌∙◌, ◌<◌, ◌++◌, ◌||◌, ℕ, Bool, true, false, List, [], ◌∷◌, length, refl, sym, ap, arith, inl, inr, append_assoc, append-nil}
use Rattle.std.specs.Prelude.{zip, flat_map}
use Rattle.std.specs.List.{fold, IsDistinct, AllByRecursion}
use Rattle.std.specs.Str.{bytes_eq}
use Rattle.std.proofs.lemmas.Bool.{cases_Bool}
use Rattle.std.proofs.lemmas.List.{map-append}
use Rattle.std.proofs.lemmas.List.Concat.{flat_map-cons}
use Rattle.std.proofs.lemmas.List.Folds.{list_any-append}
use Rattle.std.proofs.lemmas.List.Sums.{fold-append}
use Rattle.std.proofs.lemmas.Slice.Eq.{bytes_eq-Decides}
use Rattle.sl_types.specs.declared.kinds.Entry.{Entry}
use Rattle.sl_codes.specs.Codes.{has_code, with_code}
use Rattle.sl_codes.specs.Records.{Record, codes_of, field_of}
use Rattle.sl_amend.specs.Tables.{own_records}
use Rattle.sl_amend.proofs.CodesApart.{apart}
use Rattle.sl_amend.proofs.PrintedNumbers.{same_code}

or_assoc : (a b c : Bool) → ((a || b) || c) ≡ (a || (b || c))
or_assoc true b c = refl
or_assoc false b c = refl

or_true : (b : Bool) → (b || true) ≡ true
or_true true = refl
or_true false = refl

or_false : (b : Bool) → (b || false) ≡ b
or_false true = refl
or_false false = refl

-- a code is there after one more where it was, or is that one
has_with : (seen : List (List ℕ)) (code x : List ℕ) → has_code (with_code seen code) x ≡ (has_code seen x || bytes_eq x code)
has_with seen code x = elim (cases_Bool (has_code seen code)) [
  | inl e ↦ rw e (elim (cases_Bool (bytes_eq x code)) [
    | inl s ↦
        let same : x ≡ code = (bytes_eq-Decides x code).0 s in
        let there : has_code seen x ≡ true = ap (has_code seen) same ∙ e in
        rw there refl
    | inr s ↦ rw s (sym (or_false (has_code seen x)))
  ])
  | inr e ↦ rw e (list_any-append (bytes_eq x) seen (code ∷ []) ∙ ap (λ b. has_code seen x || b) (or_false (bytes_eq x code)))
]

-- the codes that were seen are those of the list
pub seen_has : (codes seen : List (List ℕ)) (x : List ℕ) → has_code (fold with_code seen codes) x ≡ (has_code seen x || has_code codes x)
seen_has [] seen x = sym (or_false (has_code seen x))
seen_has (code ∷ codes) seen x =
    seen_has codes (with_code seen code) x ∙ ap (λ b. b || has_code codes x) (has_with seen code x) ∙ or_assoc (has_code seen x) (bytes_eq x code) (has_code codes x)

old_code : (seen : List (List ℕ)) (code : List ℕ) → has_code seen code ≡ true → with_code seen code ≡ seen
old_code seen code h = rw h refl

new_code : (seen : List (List ℕ)) (code : List ℕ) → has_code seen code ≡ false → with_code seen code ≡ seen ++ code ∷ []
new_code seen code h = rw h refl

-- so many records of a code that is there
again : (progs : List (List ℕ)) (code : List ℕ) (choices : List Entry) (seen : List (List ℕ)) → has_code seen code ≡ true
    → fold with_code seen (codes_of (own_records progs code choices)) ≡ seen
again progs code [] seen h = refl
again progs code (e ∷ es) seen h = ap (λ s. fold with_code s (codes_of (own_records progs code es))) (old_code seen code h) ∙ again progs code es seen h

-- the records of a new applicant
pub seen_own : (progs : List (List ℕ)) (code : List ℕ) (choices : List Entry) (seen : List (List ℕ)) → has_code seen code ≡ false → 0 < length choices
    → fold with_code seen (codes_of (own_records progs code choices)) ≡ seen ++ code ∷ []
seen_own progs code [] seen new some = absurd (omega (arith, some))
seen_own progs code (e ∷ es) seen new some =
    let there : has_code (seen ++ code ∷ []) code ≡ true = list_any-append (bytes_eq code) seen (code ∷ []) ∙ rw (new, same_code code) refl in
    ap (λ s. fold with_code s (codes_of (own_records progs code es))) (new_code seen code new) ∙ again progs code es (seen ++ code ∷ []) there

-- the records of all applicants
pub seen_all : (progs codes : List (List ℕ)) (lists : List (List Entry)) (seen : List (List ℕ)) → length codes ≡ length lists
    → AllByRecursion (λ l. 0 < length l) lists → IsDistinct bytes_eq (seen ++ codes)
    → fold with_code seen (codes_of (flat_map (λ a. own_records progs a.0 a.1) (zip codes lists))) ≡ seen ++ codes
seen_all progs [] [] seen each some once = sym (append-nil seen)
seen_all progs [] (l ∷ lists) seen each some once = absurd (omega (arith, each))
seen_all progs (code ∷ codes) [] seen each some once = absurd (omega (arith, each))
seen_all progs (code ∷ codes) (l ∷ lists) seen each some once =
    let f : List ℕ × List Entry → List Record = λ a. own_records progs a.0 a.1 in
    let new = apart seen code codes once in
    let along : (seen ++ code ∷ []) ++ codes ≡ seen ++ code ∷ codes = append_assoc seen (code ∷ []) codes in
    ap (λ rs. fold with_code seen (codes_of rs)) (flat_map-cons f (code, l) (zip codes lists))
    ∙ ap (fold with_code seen) (map-append (λ (r : Record). field_of r 0) (own_records progs code l) (flat_map f (zip codes lists)))
    ∙ fold-append with_code seen (codes_of (own_records progs code l)) (codes_of (flat_map f (zip codes lists)))
    ∙ ap (λ s. fold with_code s (codes_of (flat_map f (zip codes lists)))) (seen_own progs code l seen new some.0)
    ∙ seen_all progs codes lists (seen ++ code ∷ []) (omega (arith, each)) some.1 (rw along once)
    ∙ along
