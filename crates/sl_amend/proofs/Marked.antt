-- The elements at whose places a list of marks has true.
use Rattle.std.proofs.Common.{◌≡◌, ◌∙◌, ◌<◌, ◌≤◌, ◌+◌, ◌++◌, ℕ, zero, suc, Bool, true, false, cond, nat_lt, List, [], ◌∷◌, length, map, get_or, take, All, Option, Some, None, IfSome, refl, sym, ap, subst, arith, inl, inr, add-one, append-nil, take_all}
use Rattle.std.specs.Prelude.{sum_by, count_by}
use Rattle.std.specs.List.{list_all, list_any, range_with_len, IsDistinct}
use Rattle.std.specs.Str.{bytes_eq}
use Rattle.std.proofs.lemmas.Bool.{cases_Bool, and_parts, or_parts, ltb-true}
use Rattle.std.proofs.lemmas.List.Elements.{All-nil, All-cons, All-head, All-tail}
use Rattle.std.proofs.lemmas.List.FromFn.{length-map-range_with_len, get_or-map-range_with_len}
use Rattle.std.proofs.lemmas.List.Sums.{sum_by-cons}
use Rattle.sl_types.specs.declared.kinds.AppId.{AppId}
use Rattle.sl_codes.specs.Codes.{has_code, with_code}
use Rattle.sl_amend.specs.DraftMarket.{marked}
use Rattle.sl_amend.specs.Origins.{origin_of, origins_of_marked}
use Rattle.sl_amend.proofs.ValidLists.{fresh}

-- one more place
pub marked_more : {A : Type 0} (marks : List Bool) (xs : List A) (k : ℕ) (d : A) → length marks ≡ length xs → k < length xs
    → marked (take (k + 1) marks) (take (k + 1) xs) ≡ marked (take k marks) (take k xs) ++ cond (get_or marks k false) (get_or xs k d ∷ []) []
marked_more marks xs k d each lt = rw add-one (at marks xs k d each lt)
  where
    at : {A : Type 0} (marks : List Bool) (xs : List A) (k : ℕ) (d : A) → length marks ≡ length xs → k < length xs
        → marked (take (suc k) marks) (take (suc k) xs) ≡ marked (take k marks) (take k xs) ++ cond (get_or marks k false) (get_or xs k d ∷ []) []
    at [] [] k d each lt = absurd (omega (arith, lt))
    at [] (x ∷ xs) k d each lt = absurd (omega (arith, each))
    at (m ∷ ms) [] k d each lt = absurd (omega (arith, lt))
    at (m ∷ ms) (x ∷ xs) zero d each lt = elim (cases_Bool m) [ inl e ↦ rw e refl | inr e ↦ rw e refl ]
    at (m ∷ ms) (x ∷ xs) (suc k) d each lt =
        let rest = at ms xs k d (omega (arith, each)) (omega (arith, lt)) in
        elim (cases_Bool m) [ inl e ↦ rw e (ap (λ ys. x ∷ ys) rest) | inr e ↦ rw e rest ]

-- as many as there are marks
pub length_marked : {A : Type 0} (marks : List Bool) (xs : List A) → length marks ≡ length xs → length (marked marks xs) ≡ count_by (λ m. m) marks
length_marked [] xs each = refl
length_marked (m ∷ ms) [] each = absurd (omega (arith, each))
length_marked (m ∷ ms) (x ∷ xs) each =
    let rest = length_marked ms xs (omega (arith, each)) in
    let sum = sum_by-cons (λ (b : Bool). cond {A = ℕ} b 1 0) m ms in
    elim (cases_Bool m) [
      | inl e ↦ (let one : cond {A = ℕ} m 1 0 ≡ 1 = rw e refl in rw (ap (λ (b : Bool). cond b (x ∷ marked ms xs) (marked ms xs)) e) (omega (arith, rest, sum, one)))
      | inr e ↦ (let none : cond {A = ℕ} m 1 0 ≡ 0 = rw e refl in rw (ap (λ (b : Bool). cond b (x ∷ marked ms xs) (marked ms xs)) e) (omega (arith, rest, sum, none)))
    ]

-- what all pass the marked ones pass, and what none passes none of them does
pub all_marked : {A : Type 0} (p : A → Bool) (marks : List Bool) (xs : List A) → list_all p xs ≡ true → list_all p (marked marks xs) ≡ true
all_marked p [] xs h = refl
all_marked p (m ∷ ms) [] h = refl
all_marked p (m ∷ ms) (x ∷ xs) h =
    let parts = and_parts (p x) (list_all p xs) h in
    let rest = all_marked p ms xs parts.1 in
    elim (cases_Bool m) [ inl e ↦ rw (e, parts.0, rest) refl | inr e ↦ rw (e, rest) refl ]

pub any_marked : {A : Type 0} (p : A → Bool) (marks : List Bool) (xs : List A) → list_any p xs ≡ false → list_any p (marked marks xs) ≡ false
any_marked p [] xs h = refl
any_marked p (m ∷ ms) [] h = refl
any_marked p (m ∷ ms) (x ∷ xs) h =
    let parts = or_parts (p x) (list_any p xs) h in
    let rest = any_marked p ms xs parts.1 in
    elim (cases_Bool m) [ inl e ↦ rw (e, parts.0, rest) refl | inr e ↦ rw (e, rest) refl ]

pub sum_marked : {A : Type 0} (f : A → ℕ) (marks : List Bool) (xs : List A) → sum_by f (marked marks xs) ≤ sum_by f xs
sum_marked f [] xs = omega arith
sum_marked f (m ∷ ms) [] = omega arith
sum_marked f (m ∷ ms) (x ∷ xs) =
    let rest = sum_marked f ms xs in
    let all = sum_by-cons f x xs in
    let some = sum_by-cons f x (marked ms xs) in
    elim (cases_Bool m) [ inl e ↦ rw e (omega (arith, rest, all, some)) | inr e ↦ rw e (omega (arith, rest, all)) ]

-- the place of a marked element
pub place : List Bool → ℕ → ℕ
place [] i = i
place (true ∷ ms) zero = zero
place (true ∷ ms) (suc i) = suc (place ms i)
place (false ∷ ms) i = suc (place ms i)

pub at_place : {A : Type 0} (marks : List Bool) (xs : List A) (i : ℕ) (d : A) → length marks ≡ length xs → get_or (marked marks xs) i d ≡ get_or xs (place marks i) d
unfolding place
at_place [] [] i d each = refl
at_place [] (x ∷ xs) i d each = absurd (omega (arith, each))
at_place (m ∷ ms) [] i d each = absurd (omega (arith, each))
at_place (true ∷ ms) (x ∷ xs) zero d each = refl
at_place (true ∷ ms) (x ∷ xs) (suc i) d each = at_place ms xs i d (omega (arith, each))
at_place (false ∷ ms) (x ∷ xs) i d each = at_place ms xs i d (omega (arith, each))

pub place_rises : (marks : List Bool) (i j : ℕ) → i < j → place marks i < place marks j
unfolding place
place_rises [] i j lt = lt
place_rises (true ∷ ms) i zero lt = absurd (omega (arith, lt))
place_rises (true ∷ ms) zero (suc j) lt = omega arith
place_rises (true ∷ ms) (suc i) (suc j) lt = let rest = place_rises ms i j (omega (arith, lt)) in omega (arith, rest)
place_rises (false ∷ ms) i j lt = let rest = place_rises ms i j lt in omega (arith, rest)

-- a place that is marked, and one that isn't
pub marked_hit : {A : Type 0} (marks : List Bool) (xs : List A) (k : ℕ) (d : A) → length marks ≡ length xs → k < length xs → get_or marks k false ≡ true
    → marked (take (k + 1) marks) (take (k + 1) xs) ≡ marked (take k marks) (take k xs) ++ get_or xs k d ∷ []
marked_hit marks xs k d each lt is = marked_more marks xs k d each lt ∙ ap (λ b. marked (take k marks) (take k xs) ++ cond b (get_or xs k d ∷ []) []) is

pub marked_miss : {A : Type 0} (marks : List Bool) (xs : List A) (k : ℕ) (d : A) → length marks ≡ length xs → k < length xs → get_or marks k false ≡ false
    → marked (take (k + 1) marks) (take (k + 1) xs) ≡ marked (take k marks) (take k xs)
marked_miss marks xs k d each lt is =
    marked_more marks xs k d each lt ∙ ap (λ b. marked (take k marks) (take k xs) ++ cond b (get_or xs k d ∷ []) []) is ∙ append-nil (marked (take k marks) (take k xs))

-- all of them
pub marked_whole : {A : Type 0} (marks : List Bool) (xs : List A) (k : ℕ) → length marks ≡ length xs → length xs ≤ k → marked (take k marks) (take k xs) ≡ marked marks xs
marked_whole marks xs k each past =
    let a = take_all k marks (omega (arith, each, past)) in
    let b = take_all k xs past in
    rw (a, b) refl

-- a code that is marked isn't among those before it
pub code_hit : (marks : List Bool) (codes : List (List ℕ)) (k : ℕ) → length marks ≡ length codes → k < length codes → IsDistinct bytes_eq codes → get_or marks k false ≡ true
    → with_code (marked (take k marks) (take k codes)) (get_or codes k []) ≡ marked (take (k + 1) marks) (take (k + 1) codes)
code_hit marks codes k each lt once is =
    let new : has_code (marked (take k marks) (take k codes)) (get_or codes k []) ≡ false = any_marked (bytes_eq (get_or codes k [])) (take k marks) (take k codes) (fresh codes k once lt) in
    rw new (sym (marked_hit marks codes k [] each lt is))

each_marked : {A : Type 0} (P : A → Type 0) (marks : List Bool) (xs : List A) → All P xs → All P (marked marks xs)
each_marked P [] xs h = All-nil P
each_marked P (m ∷ ms) [] h = All-nil P
each_marked P (m ∷ ms) (x ∷ xs) h =
    let rest = each_marked P ms xs (All-tail P x xs h) in
    elim (cases_Bool m) [ inl e ↦ rw e (All-cons P x (marked ms xs) (All-head P x xs h) rest) | inr e ↦ rw e rest ]

-- the origins of all of so many
abbrev origins_of_all : ℕ → ℕ → List (Option AppId)
origins_of_all of_tables n = map (origin_of of_tables) (range_with_len 0 n)

pub count_origins : (of_tables n : ℕ) → length (origins_of_all of_tables n) ≡ n
count_origins of_tables n = length-map-range_with_len (origin_of of_tables) 0 n

pub origin_at : (of_tables n k : ℕ) → k < n → get_or (origins_of_all of_tables n) k None ≡ origin_of of_tables k
origin_at of_tables n k lt = get_or-map-range_with_len (origin_of of_tables) 0 n k k None lt (omega arith)

origin_low : (of_tables k : ℕ) → IfSome (origin_of of_tables k) (λ a. a.0 < of_tables)
origin_low of_tables k = elim (cases_Bool (nat_lt k of_tables)) [
  | inl e ↦ rw e (ltb-true k of_tables e)
  | inr e ↦ rw e tt
]

-- each origin is an applicant of the tables
pub origins_low : (of_tables : ℕ) (marks : List Bool) → All (λ o. IfSome o (λ a. a.0 < of_tables)) (origins_of_marked of_tables marks)
origins_low of_tables marks = each_marked (λ (o : Option AppId). IfSome o (λ a. a.0 < of_tables)) marks (origins_of_all of_tables (length marks))
    (λ k d lt.
    let inside : k < length marks = omega (arith, lt, count_origins of_tables (length marks)) in
    let at : get_or (origins_of_all of_tables (length marks)) k d ≡ origin_of of_tables k = get_or-map-range_with_len (origin_of of_tables) 0 (length marks) k k d inside (omega arith) in
    subst (λ (o : Option AppId). IfSome o (λ a. a.0 < of_tables)) (sym at) (origin_low of_tables k))

-- as many as there are marks
pub length_origins : (of_tables : ℕ) (marks : List Bool) → length (origins_of_marked of_tables marks) ≡ count_by (λ m. m) marks
length_origins of_tables marks = length_marked marks (origins_of_all of_tables (length marks)) (sym (count_origins of_tables (length marks)))

-- one code more at most
pub with_code_longer : (codes : List (List ℕ)) (code : List ℕ) → length (with_code codes code) ≤ length codes + 1
with_code_longer codes code = elim (cases_Bool (has_code codes code)) [
  | inl e ↦ rw e (omega arith)
  | inr e ↦ rw e (omega (arith, Rattle.std.proofs.Common.length-append codes (code ∷ [])))
]
