-- Codes that stand once each.
use Rattle.std.proofs.Common.{◌≡◌, ◌∙◌, ◌<◌, ◌||◌, ℕ, zero, suc, Bool, true, false, List, [], ◌∷◌, ◌++◌, length, get_or, None, refl, sym, arith, inl, inr, true≢false}
use Rattle.std.specs.List.{list_all, IsDistinct, AllByRecursion}
use Rattle.std.specs.Str.{bytes_eq, is_utf8}
use Rattle.std.proofs.lemmas.Bool.{cases_Bool, and_parts}
use Rattle.std.proofs.lemmas.Slice.Eq.{bytes_eq-Decides}
use Rattle.sl_codes.specs.Codes.{has_code}
use Rattle.sl_codes.specs.Fields.{is_code, has_code_form}
use Rattle.sl_codes.specs.Faults.{code_cause}
use Rattle.sl_amend.proofs.PrintedNumbers.{same_code}

pub turned : (a b : List ℕ) → bytes_eq b a ≡ false → bytes_eq a b ≡ false
turned a b h = elim (cases_Bool (bytes_eq a b)) [
  | inl e ↦ absurd (true≢false (sym ((bytes_eq-Decides b a).1 (sym ((bytes_eq-Decides a b).0 e))) ∙ h))
  | inr e ↦ e
]

at_seam : {A : Type 0} (P : A → Type 0) (xs : List A) (y : A) (ys : List A) → AllByRecursion P (xs ++ y ∷ ys) → P y
at_seam P [] y ys h = h.0
at_seam P (x ∷ xs) y ys h = at_seam P xs y ys h.1

-- a code is none of those before it
pub apart : (seen : List (List ℕ)) (code : List ℕ) (rest : List (List ℕ)) → IsDistinct bytes_eq (seen ++ code ∷ rest) → has_code seen code ≡ false
unfolding IsDistinct
apart [] code rest h = refl
apart (x ∷ xs) code rest h =
    let here = turned code x (at_seam (λ y. bytes_eq x y ≡ false) xs code rest h.0) in
    let later = apart xs code rest h.1 in
    rw (here, later) refl

-- each code of a number is there
pub code_there : (codes : List (List ℕ)) (k : ℕ) → k < length codes → has_code codes (get_or codes k []) ≡ true
code_there [] k lt = absurd (omega (arith, lt))
code_there (c ∷ cs) zero lt = rw (same_code c) refl
code_there (c ∷ cs) (suc k) lt = rw (code_there cs k (omega (arith, lt))) (or_true (bytes_eq (get_or cs k []) c))
  where
    or_true : (b : Bool) → (b || true) ≡ true
    or_true true = refl
    or_true false = refl

-- and is a code
pub coded_at : (codes : List (List ℕ)) (k : ℕ) → list_all is_code codes ≡ true → k < length codes → is_code (get_or codes k []) ≡ true
coded_at [] k h lt = absurd (omega (arith, lt))
coded_at (c ∷ cs) zero h lt = (and_parts (is_code c) (list_all is_code cs) h).0
coded_at (c ∷ cs) (suc k) h lt = coded_at cs k (and_parts (is_code c) (list_all is_code cs) h).1 (omega (arith, lt))

-- nothing is wrong with a code
pub no_code_cause : (code : List ℕ) → is_code code ≡ true → code_cause code ≡ None
no_code_cause code h =
    let parts = and_parts (is_utf8 code) (has_code_form code) h in
    rw (parts.0, parts.1) refl

-- a code isn't empty
pub not_empty : (code : List ℕ) → is_code code ≡ true → bytes_eq code [] ≡ false
not_empty [] h =
    let form = (and_parts (is_utf8 []) (has_code_form []) h).1 in
    absurd (true≢false (sym form))
not_empty (b ∷ code) h = refl
