-- Pieces of a line, put one after another.
use Rattle.std.proofs.Common.{◌≡◌, ◌∙◌, ◌+◌, ◌<◌, ℕ, zero, suc, List, [], ◌∷◌, ◌++◌, length, take, get_or, refl, sym, ap, arith, Option, Some, None, append_assoc, append-nil, zero-add}
use Rattle.std.specs.Prelude.{min}
use Rattle.std.specs.List.{concat}
use Rattle.std.specs.Io.KnownBytes.{Appends}
use Rattle.std.specs.Prelude.{flat_map, map}
use Rattle.sl_io.specs.Sink.{AppendsPart}
use Rattle.sl_codes.specs.declared.field_text.Field.{Field}
use Rattle.sl_codes.specs.RecordText.{record_of, text_of_record}

-- the line of a record of these fields
abbrev pub line_of_fields : List Field → List ℕ
line_of_fields fields = text_of_record (record_of fields)

-- the lines of records, one after another, are their text
pub lines_are_text : (records : List (List Field)) → concat (map line_of_fields records) ≡ flat_map text_of_record (map (λ r. record_of r) records)
lines_are_text [] = refl
lines_are_text (r ∷ rs) = ap (λ (t : List ℕ). line_of_fields r ++ t) (lines_are_text rs)

-- one piece more
pub concat_more : (xs : List (List ℕ)) (i : ℕ) → i < length xs → concat (take i xs) ++ get_or xs i [] ≡ concat (take (i + 1) xs)
concat_more [] i lt = absurd (omega (arith, lt))
concat_more (x ∷ xs) zero lt = sym (append-nil x)
concat_more (x ∷ xs) (suc i) lt =
    let e : suc i + 1 ≡ suc (i + 1) = omega arith in
    append_assoc x (concat (take i xs)) (get_or xs i []) ∙ (ap (λ (t : List ℕ). x ++ t) (concat_more xs i (omega (arith, lt))) ∙ ap (λ (m : ℕ). concat (take m (x ∷ xs))) (sym e))

-- what comes after a piece
after_piece : (xs : List (List ℕ)) (i : ℕ) → i < length xs → (rest : List ℕ) × (concat xs ≡ concat (take i xs) ++ (get_or xs i [] ++ rest))
after_piece [] i lt = absurd (omega (arith, lt))
after_piece (x ∷ xs) zero lt = (concat xs, refl)
after_piece (x ∷ xs) (suc i) lt =
    let (rest, e) = after_piece xs i (omega (arith, lt)) in
    (rest, ap (λ (t : List ℕ). x ++ t) e ∙ sym (append_assoc x (concat (take i xs)) (get_or xs i [] ++ rest)))

take_after : (front ys : List ℕ) (n : ℕ) → take (length front + n) (front ++ ys) ≡ front ++ take n ys
take_after [] ys n = ap (λ (m : ℕ). take m ys) (zero-add n)
take_after (x ∷ front) ys n =
    let e : length (x ∷ front) + n ≡ suc (length front + n) = omega arith in
    ap (λ (m : ℕ). take m (x ∷ (front ++ ys))) e ∙ ap (λ (t : List ℕ). x ∷ t) (take_after front ys n)

take_within : (xs ys : List ℕ) (n : ℕ) → take (min n (length xs)) (xs ++ ys) ≡ take n xs
take_within [] ys zero = let e : min 0 0 ≡ 0 = omega arith in ap (λ (m : ℕ). take m ys) e
take_within [] ys (suc n) = let e : min (suc n) 0 ≡ 0 = omega arith in ap (λ (m : ℕ). take m ys) e
take_within (x ∷ xs) ys zero = let e : min 0 (length (x ∷ xs)) ≡ 0 = omega arith in ap (λ (m : ℕ). take m (x ∷ (xs ++ ys))) e
take_within (x ∷ xs) ys (suc n) =
    let e : min (suc n) (length (x ∷ xs)) ≡ suc (min n (length xs)) = omega arith in
    ap (λ (m : ℕ). take m (x ∷ (xs ++ ys))) e ∙ ap (λ (t : List ℕ). x ∷ t) (take_within xs ys n)

-- pieces, and then the first bytes of the next, are the first bytes of the line
pub part_of_line : (a b c : Option (List ℕ)) (xs : List (List ℕ)) (i : ℕ) → i < length xs → Appends a b (concat (take i xs)) → AppendsPart b c (get_or xs i []) → AppendsPart a c (concat xs)
part_of_line None b c xs i lt p q = tt
part_of_line (Some x) None c xs i lt p q = absurd p
part_of_line (Some x) (Some y) None xs i lt p q = absurd q
part_of_line (Some x) (Some y) (Some z) xs i lt p (n, q) =
    let piece = get_or xs i [] in
    let front = concat (take i xs) in
    let (rest, e) = after_piece xs i lt in
    let whole : take (length front + min n (length piece)) (concat xs) ≡ front ++ take n piece =
    ap (take (length front + min n (length piece))) e ∙ (take_after front (piece ++ rest) (min n (length piece)) ∙ ap (λ (t : List ℕ). front ++ t) (take_within piece rest n)) in
    (length front + min n (length piece), q ∙ (ap (λ (t : List ℕ). t ++ take n piece) p ∙ (append_assoc x front (take n piece) ∙ ap (λ (t : List ℕ). x ++ t) (sym whole))))

-- a line of one piece, and of two
pub one_piece : (x : List ℕ) → concat (x ∷ []) ≡ x
one_piece x = append-nil x

pub two_pieces : (x y : List ℕ) → concat (x ∷ y ∷ []) ≡ x ++ y
two_pieces x y = ap (λ (t : List ℕ). x ++ t) (append-nil y)
