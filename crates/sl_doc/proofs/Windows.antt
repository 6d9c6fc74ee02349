-- A part of a list, as one more element comes.
use Rattle.std.proofs.Common.{◌≡◌, ◌∙◌, ◌<◌, ◌≤◌, ◌+◌, ◌++◌, ◌-◌, ℕ, zero, suc, List, [], ◌∷◌, length, take, drop, get_or, min, refl, sym, ap, arith, length-append}
use Rattle.std.specs.Prelude.{zip, All}
use Rattle.std.proofs.lemmas.List.{take_all, drop_all, take-append-le, drop-append-le, length-drop, length-take}

-- behind the part
pub part_past : {A : Type 0} (xs : List A) (x : A) (j m : ℕ) → j + m ≤ length xs → take m (drop j (xs ++ x ∷ [])) ≡ take m (drop j xs)
part_past xs x j m le =
    let size = length-drop j xs in
    ap (take m) (drop-append-le j xs (x ∷ []) (omega (arith, le))) ∙ take-append-le m (drop j xs) (x ∷ []) (omega (arith, le, size))

-- within it
pub part_more : {A : Type 0} (xs : List A) (x : A) (j m : ℕ) → j ≤ length xs → length xs < j + m → take m (drop j (xs ++ x ∷ [])) ≡ take m (drop j xs) ++ x ∷ []
part_more xs x j m le lt =
    let size = length-drop j xs in
    let longer = length-append (drop j xs) (x ∷ []) in
    ap (take m) (drop-append-le j xs (x ∷ []) le) ∙ take_all m (drop j xs ++ x ∷ []) (omega (arith, le, lt, size, longer))
    ∙ ap (λ l. l ++ x ∷ []) (sym (take_all m (drop j xs) (omega (arith, le, lt, size))))

-- before it
pub rest_before : {A : Type 0} (xs : List A) (x : A) (j : ℕ) → length xs < j → drop j (xs ++ x ∷ []) ≡ drop j xs
rest_before xs x j lt =
    let longer = length-append xs (x ∷ []) in
    drop_all j (xs ++ x ∷ []) (omega (arith, lt, longer)) ∙ sym (drop_all j xs (omega (arith, lt)))

pub part_before : {A : Type 0} (xs : List A) (x : A) (j m : ℕ) → length xs < j → take m (drop j (xs ++ x ∷ [])) ≡ take m (drop j xs)
part_before xs x j m lt = ap (take m) (rest_before xs x j lt)

pub rest_more : {A : Type 0} (xs : List A) (x : A) (j : ℕ) → j ≤ length xs → drop j (xs ++ x ∷ []) ≡ drop j xs ++ x ∷ []
rest_more xs x j le = drop-append-le j xs (x ∷ []) le

-- how long a part is
pub part_length : {A : Type 0} (xs : List A) (j m : ℕ) → length (take m (drop j xs)) ≡ min m (length xs - j)
part_length xs j m = length-take m (drop j xs) ∙ ap (min m) (length-drop j xs)

-- two lists side by side
pub zip_none : {A B : Type 0} (xs : List A) → zip {K = A} {X = B} xs [] ≡ []
zip_none [] = refl
zip_none (x ∷ xs) = refl

pub zip_more : {A B : Type 0} (xs : List A) (ys : List B) (y : B) (d : A) → length ys < length xs → zip xs (ys ++ y ∷ []) ≡ zip xs ys ++ (get_or xs (length ys) d, y) ∷ []
zip_more [] ys y d lt = absurd (omega (arith, lt))
zip_more (x ∷ xs) [] y d lt = ap (λ l. (x, y) ∷ l) (zip_none xs)
zip_more (x ∷ xs) (z ∷ ys) y d lt = ap (λ l. (x, z) ∷ l) (zip_more xs ys y d (omega (arith, lt)))

-- what holds of all and of one more
pub all_more : {A : Type 0} (P : A → Type 0) (xs : List A) (x : A) → All P xs → P x → All P (xs ++ x ∷ [])
all_more P [] x h p zero d lt = p
all_more P [] x h p (suc k) d lt = absurd (omega (arith, lt))
all_more P (y ∷ ys) x h p zero d lt = h 0 d (omega arith)
all_more P (y ∷ ys) x h p (suc k) d lt = all_more P ys x (λ j e l. h (suc j) e (omega (arith, l))) p k d (omega (arith, lt))
