-- The lines of a look, one after another.
use Rattle.std.proofs.Common.{◌≡◌, ◌∙◌, ◌<◌, ◌≤◌, ◌+◌, ℕ, List, [], ◌∷◌, ◌++◌, length, get_or, take, drop, take-append-drop, refl, sym, ap, arith, append-nil}
use Rattle.std.specs.Prelude.{flat_map}
use Rattle.std.specs.List.{range_with_len}
use Rattle.std.proofs.lemmas.List.{take_more as take_more_rows, take_all}
use Rattle.std.proofs.lemmas.List.Concat.{flat_map-cons}
use Rattle.std.proofs.lemmas.List.FromFn.{get_or-range_with_len, length-range_with_len}
use Rattle.std.proofs.lemmas.Grind.{flat_map-append}

module _ (line : ℕ → List ℕ) (count : ℕ) where
  abbrev numbers : List ℕ
  numbers = range_with_len 0 count

  -- one more
  pub lines_more : (k : ℕ) → k < count → flat_map line (take (k + 1) numbers) ≡ flat_map line (take k numbers) ++ line k
  lines_more k lt =
      let size = length-range_with_len 0 count in
      let at : get_or numbers k 0 ≡ k = get_or-range_with_len 0 count k 0 lt ∙ omega arith in
      ap (flat_map line) (take_more_rows numbers k 0 (omega (arith, lt, size))) ∙ flat_map-append line (take k numbers) (get_or numbers k 0 ∷ [])
      ∙ ap (λ l. flat_map line (take k numbers) ++ l) (flat_map-cons line (get_or numbers k 0) [] ∙ append-nil (line (get_or numbers k 0)))
      ∙ ap (λ (j : ℕ). flat_map line (take k numbers) ++ line j) at

  -- and those after it
  pub lines_rest : (k : ℕ) → flat_map line numbers ≡ flat_map line (take k numbers) ++ flat_map line (drop k numbers)
  lines_rest k = ap (flat_map line) (sym (take-append-drop k numbers)) ∙ flat_map-append line (take k numbers) (drop k numbers)

  -- all of them
  pub lines_all : (k : ℕ) → count ≤ k → flat_map line (take k numbers) ≡ flat_map line numbers
  lines_all k le = let size = length-range_with_len 0 count in ap (flat_map line) (take_all k numbers (omega (arith, le, size)))
