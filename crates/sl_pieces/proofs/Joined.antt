-- What was made for the pieces of a range, one after another, is what the whole range asks for.
use Rattle.std.proofs.Common.{◌≡◌, ℕ, zero, suc, ◌+◌, ◌≤◌, List, [], ◌∷◌, ◌++◌, All, Ok, arith}
use Rattle.std.specs.Prelude.{flat_map}
use Rattle.std.specs.List.{AllZip, range_with_len}
use Rattle.std.proofs.Math.Nat.{mul-le-mul_right}
use Rattle.std.proofs.lemmas.List.Elements.{All-nil, All-cons}
use Rattle.sl_pieces.specs.declared.pieces.TheConstants.{PIECES}
use Rattle.sl_pieces.specs.Pieces.{piece_start, Makes, AreMade}

-- where pieces begin
pub piece_rises : (count k : ℕ) → piece_start count k ≤ piece_start count (k + 1)
piece_rises count k =
    let up = mul-le-mul_right {m = k} {n = k + 1} count (omega arith) in
    omega (arith, up)

pub piece_within : (count k : ℕ) → k ≤ PIECES → piece_start count k ≤ count
piece_within count k h =
    let up = mul-le-mul_right {m = k} {n = PIECES} count h in
    omega (arith, up)

zip_to : {A : Type 0} (P Q : ℕ → A → Type 0) (ks : List ℕ) (xs : List A) → ((k : ℕ) (x : A) → P k x → Q k x) → AllZip P ks xs → AllZip Q ks xs
zip_to P Q [] [] f h = h
zip_to P Q [] (x ∷ xs) f h = absurd h
zip_to P Q (k ∷ ks) [] f h = absurd h
zip_to P Q (k ∷ ks) (x ∷ xs) f h = (f k x h.0, zip_to P Q ks xs f h.1)

all_zip : {A : Type 0} (P : A → Type 0) (Q : ℕ → A → Type 0) (ks : List ℕ) (xs : List A) → ((k : ℕ) (x : A) → Q k x → P x) → AllZip Q ks xs → All P xs
all_zip P Q [] [] f h = All-nil P
all_zip P Q [] (x ∷ xs) f h = absurd h
all_zip P Q (k ∷ ks) [] f h = absurd h
all_zip P Q (k ∷ ks) (x ∷ xs) f h = All-cons P x xs (f k x h.0) (all_zip P Q ks xs f h.1)

-- what is true of each that is made for a range is true of each piece
pub made_each : {T : Type 0} (P : T → Type 0) (count : ℕ) (Made : Makes T) (parts : List T) → ((i j : ℕ) (part : T) → Made i j (Ok part) → P part) → AreMade Made count parts → All P parts
made_each P count Made parts f h =
    all_zip P (λ k part. Made (piece_start count k) (piece_start count (k + 1)) (Ok part)) (range_with_len 0 PIECES) parts (λ k part. f (piece_start count k) (piece_start count (k + 1)) part) h

-- something that a list has between two numbers, and that two lists have together where one ends and the other begins
module _ {T A : Type 0} (has : ℕ → ℕ → List A → Type 0) (nothing : (a : ℕ) → has a a [])
    (joins : (a b c : ℕ) (xs ys : List A) → a ≤ b → b ≤ c → has a b xs → has b c ys → has a c (xs ++ ys)) (read : T → List A) where
  module _ (start : ℕ → ℕ) (rises : (k : ℕ) → start k ≤ start (k + 1)) where
    rises_far : (k m : ℕ) → start k ≤ start (k + m)
    rises_far k zero = let e : k + zero ≡ k = omega arith in rw e (omega arith)
    rises_far k (suc m) =
        let e : k + suc m ≡ k + m + 1 = omega arith in
        let far = rises_far k m in
        let next = rises (k + m) in
        rw e (omega (arith, far, next))

    pieces_joined : (k m : ℕ) (parts : List T) → AllZip (λ j part. has (start j) (start (j + 1)) (read part)) (range_with_len k m) parts
        → has (start k) (start (k + m)) (flat_map read parts)
    pieces_joined k zero [] h = let e : k + zero ≡ k = omega arith in rw e (nothing (start k))
    pieces_joined k zero (part ∷ parts) h = absurd h
    pieces_joined k (suc m) [] h = absurd h
    pieces_joined k (suc m) (part ∷ parts) h =
        let e : k + 1 + m ≡ k + suc m = omega arith in
        rw (← e) (joins (start k) (start (k + 1)) (start (k + 1 + m)) (read part) (flat_map read parts) (rises k) (rises_far (k + 1) m) h.0 (pieces_joined (k + 1) m parts h.1))

  -- the pieces of so many numbers have it together
  pub made_whole : (count : ℕ) (Made : Makes T) (parts : List T) → ((i j : ℕ) (part : T) → Made i j (Ok part) → has i j (read part)) → AreMade Made count parts → has 0 count (flat_map read parts)
  made_whole count Made parts f h =
      let each = zip_to (λ k part. Made (piece_start count k) (piece_start count (k + 1)) (Ok part)) (λ k part. has (piece_start count k) (piece_start count (k + 1)) (read part)) (range_with_len 0 PIECES) parts
      (λ k part. f (piece_start count k) (piece_start count (k + 1)) part) h in
      let whole = pieces_joined (piece_start count) (piece_rises count) 0 PIECES parts each in
      let first : piece_start count 0 ≡ 0 = omega arith in
      let last : piece_start count (0 + PIECES) ≡ count = omega arith in
      rw (first, last) at whole
