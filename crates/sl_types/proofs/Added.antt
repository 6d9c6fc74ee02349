-- One row more at the end of the items.
use Rattle.std.proofs.Common.{◌≡◌, ◌≤◌, ◌<◌, ◌+◌, ◌-◌, ℕ, List, [], ◌∷◌, ◌++◌, length, take, drop, map, get_or, refl, sym, ap, ◌∙◌, arith, length-append, length-drop, inl, inr}
use Rattle.std.specs.Prelude.{slice_index}
use Rattle.std.specs.List.{range_with_len}
use Rattle.std.proofs.lemmas.Bool.{cases_lt}
use Rattle.std.proofs.lemmas.List.{take-append-le, drop-append-le, take_all}
use Rattle.std.proofs.lemmas.List.FromFn.{length-map-range_with_len, get_or-map-range_with_len, map-range_with_len_more, fill_by_all}
use Rattle.std.proofs.Math.Seq.{drop-append_seam}
use Rattle.sl_types.specs.Rows.{row_of, rows_of, AreCut}

before : {X : Type 0} (xs : List X) (y d : X) (k : ℕ) → k < length xs → get_or (xs ++ y ∷ []) k d ≡ get_or xs k d
before [] y d k h = absurd (omega (arith, h))
before (x ∷ xs) y d Rattle.std.proofs.Common.zero h = refl
before (x ∷ xs) y d (Rattle.std.proofs.Common.suc k) h = before xs y d k (omega (arith, h))

last : {X : Type 0} (xs : List X) (y d : X) → get_or (xs ++ y ∷ []) (length xs) d ≡ y
last [] y d = refl
last (x ∷ xs) y d = last xs y d

-- what is between two places is the same with more behind it
range_kept : {X : Type 0} (xs ys : List X) (a b : ℕ) → a ≤ b → b ≤ length xs → take (b - a) (drop a (xs ++ ys)) ≡ take (b - a) (drop a xs)
range_kept xs ys a b low high =
    let len = length-drop a xs in
    ap (take (b - a)) (drop-append-le a xs ys (omega (arith, low, high))) ∙ take-append-le (b - a) (drop a xs) ys (omega (arith, low, high, len))

-- what is behind the first part
range_added : {X : Type 0} (xs ys : List X) → take (length xs + length ys - length xs) (drop (length xs) (xs ++ ys)) ≡ ys
range_added xs ys =
    let few : length xs + length ys - length xs ≡ length ys = omega arith in
    rw (few, drop-append_seam xs ys) (take_all (length ys) ys (omega arith))

module _ {A : Type 0} (items more : List A) (starts : List ℕ) (cut : AreCut items starts) where
  abbrev end : ℕ
  end = length items + length more

  abbrev later : List ℕ
  later = starts ++ end ∷ []

  many : length later ≡ length starts + 1
  many = length-append starts (end ∷ [])

  kept : (k : ℕ) → k + 1 < length starts → row_of (items ++ more) later k ≡ row_of items starts k
  kept k lt =
      let here = before starts end 0 k (omega (arith, lt)) in
      let next = before starts end 0 (k + 1) lt in
      rw (here, next) (range_kept items more (slice_index starts k) (slice_index starts (k + 1)) (cut.rise k lt) (cut.within (k + 1) lt))

  added : row_of (items ++ more) later (length starts - 1) ≡ more
  added =
      let some = cut.begins in
      let here : slice_index later (length starts - 1) ≡ length items = before starts end 0 (length starts - 1) (omega (arith, some)) ∙ cut.ends in
      let at_end : length starts - 1 + 1 ≡ length starts = omega (arith, some) in
      let next : slice_index later (length starts - 1 + 1) ≡ end = ap (slice_index later) at_end ∙ last starts end 0 in
      rw (here, next) (range_added items more)

  -- the rows are those of before, and one more
  pub rows_added : rows_of (items ++ more) later ≡ rows_of items starts ++ more ∷ []
  rows_added =
      let some = cut.begins in
      let n : ℕ = length starts - 1 in
      let size : length later - 1 ≡ n + 1 = omega (arith, many, some) in
      let old : rows_of items starts ≡ map (row_of (items ++ more) later) (range_with_len 0 n) =
      fill_by_all (row_of (items ++ more) later) (rows_of items starts) n [] (length-map-range_with_len (row_of items starts) 0 n)
      (λ k lt. get_or-map-range_with_len (row_of items starts) 0 n k k [] lt (omega arith) ∙ sym (kept k (omega (arith, lt)))) in
      ap (λ (m : ℕ). map (row_of (items ++ more) later) (range_with_len 0 m)) size
      ∙ map-range_with_len_more (row_of (items ++ more) later) 0 n n (omega arith)
      ∙ ap (λ (rows : List (List A)). rows ++ row_of (items ++ more) later n ∷ []) (sym old)
      ∙ ap (λ (row : List A). rows_of items starts ++ row ∷ []) added

  pub cut_more : AreCut (items ++ more) later
  cut_more =
      let some = cut.begins in
      let total : length (items ++ more) ≡ end = length-append items more in
      let at_end : slice_index later (length starts) ≡ end = last starts end 0 in
      record {
        begins = omega (arith, many);
        rise = λ k lt. elim (cases_lt (k + 1) (length starts)) [
          | inl inside ↦
              let here = before starts end 0 k (omega (arith, inside)) in
              let next = before starts end 0 (k + 1) inside in
              let h = cut.rise k inside in
              omega (arith, here, next, h)
          | inr past ↦
              let is : k + 1 ≡ length starts = omega (arith, past, lt, many) in
              let here = before starts end 0 k (omega (arith, is)) in
              let next : slice_index later (k + 1) ≡ end = ap (slice_index later) is ∙ at_end in
              let h = cut.within k (omega (arith, is)) in
              omega (arith, here, next, h)
        ];
        within = λ k lt. elim (cases_lt k (length starts)) [
          | inl inside ↦
              let here = before starts end 0 k inside in
              let h = cut.within k inside in
              omega (arith, here, h, total)
          | inr past ↦
              let is : k ≡ length starts = omega (arith, past, lt, many) in
              let here : slice_index later k ≡ end = ap (slice_index later) is ∙ at_end in
              omega (arith, here, total)
        ];
        ends = let is : length later - 1 ≡ length starts = omega (arith, many) in ap (slice_index later) is ∙ at_end ∙ sym total;
      }

pub count_of_rows : {A : Type 0} (items : List A) (starts : List ℕ) → length (rows_of items starts) ≡ length starts - 1
count_of_rows items starts = length-map-range_with_len (row_of items starts) 0 (length starts - 1)

-- where a row lies
pub row_place : {A : Type 0} (items : List A) (starts : List ℕ) (k : ℕ) → AreCut items starts → k < length (rows_of items starts)
    → (k + 1 < length starts) × (slice_index starts k ≤ slice_index starts (k + 1)) × (slice_index starts (k + 1) ≤ length items)
row_place items starts k cut lt =
    let len = count_of_rows items starts in
    let few : k + 1 < length starts = omega (arith, lt, len) in
    (few, cut.rise k few, cut.within (k + 1) few)

-- what stands there
pub row_is : {A : Type 0} (items : List A) (starts : List ℕ) (k : ℕ) → k < length (rows_of items starts) → row_of items starts k ≡ get_or (rows_of items starts) k []
row_is items starts k lt =
    let len = count_of_rows items starts in
    sym (get_or-map-range_with_len (row_of items starts) 0 (length starts - 1) k k [] (omega (arith, lt, len)) (omega arith))
