-- Rows joined row by row, of which the first are made so far.
use Rattle.std.proofs.Common.{◌≡◌, ℕ, ◌+◌, ◌-◌, ◌<◌, List, [], ◌∷◌, ◌++◌, length, map, get_or, refl, sym, ap, ◌∙◌, subst, arith, length-append}
use Rattle.std.specs.Prelude.{slice_index}
use Rattle.std.specs.List.{range_with_len}
use Rattle.std.proofs.lemmas.List.FromFn.{get_or-map-range_with_len, map-range_with_len_more}
use Rattle.sl_types.specs.Rows.{rows_of, AreCut}
use Rattle.sl_types.proofs.Added.{rows_added, cut_more, count_of_rows, row_is}
use Rattle.sl_contend.specs.Rows.{row_of, AreRows, ArePacked}

-- the first k rows that f tells
pub record AreFirst {A : Type 0} (f : ℕ → List A) (k : ℕ) (items : List A) (starts : List ℕ) : Type 0 where
  pub size : length starts ≡ k + 1
  pub first : slice_index starts 0 ≡ 0
  pub cut : AreCut items starts
  pub rows : rows_of items starts ≡ map f (range_with_len 0 k)

module _ {A : Type 0} (f : ℕ → List A) where
  pub none_yet : AreFirst f 0 [] (0 ∷ [])
  none_yet = record {
    size = refl;
    first = refl;
    cut = record {
      begins = omega arith;
      rise = λ k lt. absurd (omega (arith, lt));
      within = λ k lt. let e : k ≡ 0 = omega (arith, lt) in rw e (omega arith);
      ends = refl;
    };
    rows = refl;
  }

  module _ (k : ℕ) (items : List A) (starts : List ℕ) (are : AreFirst f k items starts) where
    -- row k is added
    pub next : AreFirst f (k + 1) (items ++ f k) (starts ++ (length items + length (f k)) ∷ [])
    next = record {
      size = let e = are.size in omega (arith, e, length-append starts ((length items + length (f k)) ∷ []));
      first = first_kept starts (length items + length (f k)) are.cut.begins ∙ are.first;
      cut = cut_more items (f k) starts are.cut;
      rows = rows_added items (f k) starts are.cut ∙ (ap (λ (rows : List (List A)). rows ++ f k ∷ []) are.rows ∙ sym (map-range_with_len_more f 0 k k (omega arith)));
    }
      where
        first_kept : (xs : List ℕ) (y : ℕ) → 0 < length xs → slice_index (xs ++ y ∷ []) 0 ≡ slice_index xs 0
        first_kept [] y h = absurd (omega (arith, h))
        first_kept (x ∷ xs) y h = refl

    pub are_rows : AreRows k items starts
    are_rows = record {
      size = are.size;
      rise = λ j lt. are.cut.rise j (let e = are.size in omega (arith, e, lt));
      within = λ j lt. are.cut.within (j + 1) (let e = are.size in omega (arith, e, lt));
    }

    pub are_packed : ArePacked k items starts
    are_packed = record {
      first = are.first;
      last = let e : length starts - 1 ≡ k = let s = are.size in omega (arith, s) in ap (slice_index starts) (sym e) ∙ are.cut.ends;
    }

    pub row_held : (j : ℕ) → j < k → row_of items starts j ≡ f j
    row_held j lt =
        let n : length (rows_of items starts) ≡ k = let s = are.size in omega (arith, s, count_of_rows items starts) in
        row_is items starts j (omega (arith, n, lt))
        ∙ (ap (λ (rows : List (List A)). get_or rows j []) are.rows ∙ get_or-map-range_with_len f 0 k j j [] lt (omega arith))
