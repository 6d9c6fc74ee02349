-- A number entered into one of the rows that are being filled.
use Rattle.std.proofs.Common.{◌≡◌, ℕ, zero, suc, ◌+◌, ◌-◌, ◌<◌, Bool, true, false, not, ◌&&◌, cond, List, [], ◌∷◌, ◌++◌, length, map, set, get_or, nat_eq, slice_get, Option, Some, None, refl, sym, ap, ◌∙◌, arith, inl, inr, eq-eqb, eqb-true, ne_eqb, replicate}
use Rattle.std.specs.List.{range_with_len}
use Rattle.std.specs.Option.{option_map}
use Rattle.std.proofs.lemmas.Bool.{cases_Bool, cases_eq}
use Rattle.std.proofs.lemmas.List.{append-nil, map-append, length_push, length-map, get_or-set_same, get_or-set_other}
use Rattle.std.proofs.Math.Bool.{and-false}
use Rattle.sl_contend.specs.declared.rows.Placed.{Placed}
use Rattle.sl_contend.specs.Rows.{placed_in, last_of}
use Rattle.sl_contend.specs.Entering.{is_number, ends_in, enter_from}
use Rattle.sl_contend.proofs.Growing.{each_row}
use Rattle.sl_contend.proofs.Placed.{placed_push}

-- the rows of what was placed, by the numbers of what they hold
abbrev pub filled : {T : Type 0} → (T → ℕ) → ℕ → List (Placed T) → List (List ℕ)
filled number count placed = map (λ Q. map number (placed_in Q placed)) (range_with_len 0 count)

get_map : {A : Type 0} (f : A → ℕ) (xs : List A) (i : ℕ) → slice_get (map f xs) i ≡ option_map f (slice_get xs i)
get_map f [] i = refl
get_map f (x ∷ xs) zero = refl
get_map f (x ∷ xs) (suc i) = get_map f xs i

-- the last of a row, by its number
pub ends_map : {A : Type 0} (f : A → ℕ) (xs : List A) (x : ℕ) → ends_in (map f xs) x ≡ is_number (option_map f (last_of xs)) x
ends_map f xs x = ap (λ (n : ℕ). is_number (slice_get (map f xs) (n - 1)) x) (length-map xs f) ∙ ap (λ o. is_number o x) (get_map f xs (length xs - 1))

get_end : {A : Type 0} (xs : List A) (x : A) → slice_get (xs ++ x ∷ []) (length xs) ≡ Some x
get_end [] x = refl
get_end (y ∷ xs) x = get_end xs x

last_push : {A : Type 0} (xs : List A) (x : A) → last_of (xs ++ x ∷ []) ≡ Some x
last_push xs x = let e : length (xs ++ x ∷ []) - 1 ≡ length xs = let k = length_push xs x in omega (arith, k) in ap (slice_get (xs ++ x ∷ [])) e ∙ get_end xs x

abbrev nothing : List ℕ
nothing = []

-- rows with nothing in them
pub filled_none : {T : Type 0} (number : T → ℕ) (count : ℕ) → filled number count [] ≡ replicate count []
filled_none number count = none_from 0 count
  where
    none_from : (k n : ℕ) → map (λ (Q : ℕ). nothing) (range_with_len k n) ≡ replicate n []
    none_from k zero = refl
    none_from k (suc n) = ap (λ (rows : List (List ℕ)). [] ∷ rows) (none_from (k + 1) n)

module _ {T : Type 0} (number : T → ℕ) (own : ℕ → Bool) (count : ℕ) (placed : List (Placed T)) (p : Placed T) (other : own p.row.0 ≡ false) where
  abbrev row : ℕ → List ℕ
  row Q = map number (placed_in Q placed)

  row_push : (Q : ℕ) → map number (placed_in Q (placed ++ p ∷ [])) ≡ row Q ++ cond (nat_eq p.row.0 Q) (number p.item ∷ []) []
  row_push Q = ap (map number) (placed_push Q placed p) ∙ elim (cases_Bool (nat_eq p.row.0 Q)) [
    | inl hit ↦ rw hit (map-append number (placed_in Q placed) (p.item ∷ []))
    | inr miss ↦ rw miss (map-append number (placed_in Q placed) [])
  ]

  -- where it isn't the last there, it goes to the end
  pub pushed : ends_in (row p.row.0) (number p.item) ≡ false
      → filled number count (placed ++ p ∷ []) ≡ enter_from (λ Q. not (own Q) && nat_eq p.row.0 Q) 0 (filled number count placed) (number p.item)
  pushed fresh = sym (each_row (λ Q. not (own Q) && nat_eq p.row.0 Q) row (λ Q. map number (placed_in Q (placed ++ p ∷ []))) 0 count (number p.item) (λ Q low high. elim (cases_Bool (nat_eq p.row.0 Q)) [
    | inl hit ↦ let same = eqb-true p.row.0 Q hit in rw (← same) (rw (other, eq-eqb p.row.0 p.row.0 refl, fresh) (sym (row_push p.row.0 ∙ rw (eq-eqb p.row.0 p.row.0 refl) refl)))
    | inr miss ↦ rw (miss, and-false (not (own Q))) (sym (row_push Q ∙ rw miss (append-nil (row Q))))
  ]))

  -- where it is, the rows stay
  pub kept : ends_in (row p.row.0) (number p.item) ≡ true → filled number count placed ≡ enter_from (λ Q. not (own Q) && nat_eq p.row.0 Q) 0 (filled number count placed) (number p.item)
  kept there = sym (each_row (λ Q. not (own Q) && nat_eq p.row.0 Q) row row 0 count (number p.item) (λ Q low high. elim (cases_Bool (nat_eq p.row.0 Q)) [
    | inl hit ↦ let same = eqb-true p.row.0 Q hit in rw (← same) (rw (other, eq-eqb p.row.0 p.row.0 refl, there) refl)
    | inr miss ↦ rw (miss, and-false (not (own Q))) refl
  ]))

-- the last of each row, once one more item is placed
pub lasts_more : {T : Type 0} (placed : List (Placed T)) (p : Placed T) (last : List (Option T)) → p.row.0 < length last
    → ((Q : ℕ) → Q < length last → get_or last Q None ≡ last_of (placed_in Q placed))
    → (Q : ℕ) → Q < length last → get_or (set last p.row.0 (Some p.item)) Q None ≡ last_of (placed_in Q (placed ++ p ∷ []))
lasts_more placed p last in_rows lasts Q Q_in = elim (cases_eq p.row.0 Q) [
  | inl same ↦
      let more : placed_in p.row.0 (placed ++ p ∷ []) ≡ placed_in p.row.0 placed ++ p.item ∷ [] = placed_push p.row.0 placed p ∙ ap (λ (b : Bool). placed_in p.row.0 placed ++ cond b (p.item ∷ []) []) (eq-eqb p.row.0 p.row.0 refl) in
      rw (← same) (get_or-set_same last p.row.0 (Some p.item) None in_rows ∙ sym (ap last_of more ∙ last_push (placed_in p.row.0 placed) p.item))
  | inr other ↦
      let same : placed_in Q (placed ++ p ∷ []) ≡ placed_in Q placed = placed_push Q placed p ∙ (ap (λ (b : Bool). placed_in Q placed ++ cond b (p.item ∷ []) []) (ne_eqb p.row.0 Q other) ∙ append-nil (placed_in Q placed)) in
      get_or-set_other last p.row.0 Q (Some p.item) None (λ e. other (sym e)) ∙ (lasts Q Q_in ∙ sym (ap last_of same))
]
