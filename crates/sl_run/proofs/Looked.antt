-- The lines of looks, one after another, and a text after them.
use Rattle.std.proofs.Common.{◌≡◌, ◌∙◌, ◌<◌, ℕ, List, [], ◌∷◌, ◌++◌, length, map, get_or, refl, sym, ap, subst, arith, Option}
use Rattle.std.specs.Prelude.{flat_map}
use Rattle.std.specs.List.{concat, range_with_len}
use Rattle.std.specs.Io.KnownBytes.{Appends}
use Rattle.std.proofs.KnownBytes.{Appends-nil}
use Rattle.std.proofs.lemmas.List.{length-map, get_or-map}
use Rattle.std.proofs.lemmas.List.FromFn.{length-range_with_len, get_or-range_with_len}
use Rattle.sl_io.specs.Sink.{AppendsPart}
use Rattle.sl_instance.specs.NamedMarket.{NamedMarket}
use Rattle.sl_run.specs.Looks.{look_lines, looks_text}
use Rattle.sl_run.proofs.Lines.{part_of_line, one_piece, two_pieces}

concat_map : (f : ℕ → List ℕ) (xs : List ℕ) → concat (map f xs) ≡ flat_map f xs
concat_map f [] = refl
concat_map f (x ∷ xs) = ap (λ (t : List ℕ). f x ++ t) (concat_map f xs)

module _ (n : NamedMarket) (seen : List (List ℕ)) where
  -- the lines of each look
  abbrev pub lines_of_looks : List (List ℕ)
  lines_of_looks = map (look_lines n seen) (range_with_len 0 (length seen))

  pub looks_long : length lines_of_looks ≡ length seen
  looks_long = length-map (range_with_len 0 (length seen)) (look_lines n seen) ∙ length-range_with_len 0 (length seen)

  pub lines_at : (k : ℕ) → k < length seen → look_lines n seen k ≡ get_or lines_of_looks k []
  lines_at k lt =
      let numbers = range_with_len 0 (length seen) in
      let size = length-range_with_len 0 (length seen) in
      let at : get_or numbers k 0 ≡ k = get_or-range_with_len 0 (length seen) k 0 lt ∙ omega arith in
      sym (get_or-map (look_lines n seen) numbers k 0 [] (omega (arith, lt, size)) ∙ ap (λ (j : ℕ). look_lines n seen j) at)

  pub looks_are_text : concat lines_of_looks ≡ looks_text n seen
  looks_are_text = concat_map (look_lines n seen) (range_with_len 0 (length seen))

-- a part of the first of two texts, and the first with a part of the second
pub part_first : (a b : Option (List ℕ)) (xs ys : List ℕ) → AppendsPart a b xs → AppendsPart a b (xs ++ ys)
part_first a b xs ys part = subst (AppendsPart a b) (two_pieces xs ys) (part_of_line a a b (xs ∷ ys ∷ []) 0 (omega arith) (Appends-nil a) part)

pub part_second : (a b c : Option (List ℕ)) (xs ys : List ℕ) → Appends a b xs → AppendsPart b c ys → AppendsPart a c (xs ++ ys)
part_second a b c xs ys whole part =
    subst (AppendsPart a c) (two_pieces xs ys) (part_of_line a b c (xs ∷ ys ∷ []) 1 (omega arith) (subst (Appends a b) (sym (one_piece xs)) whole) part)
