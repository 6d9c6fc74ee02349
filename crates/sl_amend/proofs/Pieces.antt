-- Byte strings in one vector, by where each ends.
use Rattle.std.proofs.Common.{◌≡◌, ◌∙◌, ◌<◌, ◌≤◌, ◌-◌, ℕ, zero, suc, nat_eq, false, List, [], ◌∷◌, length, get_or, refl, sym, ap, arith}
use Rattle.std.specs.Prelude.{slice_range}
use Rattle.sl_codes.proofs.Lists.{differ}
use Rattle.sl_codes.specs.Records.{field_of}
use Rattle.sl_amend.specs.Fields.{pieces, start_of, AreEnds}

-- the string of a number lies from where it begins to where it ends
pub piece_at : (bytes : List ℕ) (start : ℕ) (stops : List ℕ) (k : ℕ) → k < length stops
    → get_or (pieces bytes start stops) k [] ≡ slice_range bytes (start_of start stops k) (get_or stops k 0)
piece_at bytes start [] k lt = absurd (omega (arith, lt))
piece_at bytes start (stop ∷ stops) zero lt = refl
piece_at bytes start (stop ∷ stops) (suc k) lt =
    piece_at bytes stop stops k (omega (arith, lt)) ∙ ap (λ from. slice_range bytes from (get_or stops k 0)) (begins start stop stops k)
  where
    later : (start : ℕ) (stops : List ℕ) (k : ℕ) → start_of start stops (suc k) ≡ get_or stops k 0
    later start stops k =
        let no : nat_eq (suc k) 0 ≡ false = differ (suc k) 0 (λ e. cc e) in
        let same : suc k - 1 ≡ k = omega arith in
        rw no (ap (λ i. get_or stops i 0) same)

    begins : (start stop : ℕ) (stops : List ℕ) (k : ℕ) → start_of stop stops k ≡ start_of start (stop ∷ stops) (suc k)
    begins start stop stops zero = sym (later start (stop ∷ stops) zero)
    begins start stop stops (suc k) = later stop stops k ∙ sym (later start (stop ∷ stops) (suc k))

pub length-pieces : (bytes : List ℕ) (start : ℕ) (stops : List ℕ) → length (pieces bytes start stops) ≡ length stops
length-pieces bytes start [] = refl
length-pieces bytes start (stop ∷ stops) = ap suc (length-pieces bytes stop stops)

-- five strings, each of which ends where the next begins
pub five_ends : (bytes : List ℕ) (a b c d e : ℕ) → a ≤ b → b ≤ c → c ≤ d → d ≤ e → e ≤ length bytes → AreEnds bytes (a ∷ b ∷ c ∷ d ∷ e ∷ [])
five_ends bytes a b c d e ab bc cd de top zero lt = (omega arith, omega arith)
five_ends bytes a b c d e ab bc cd de top (suc zero) lt = (omega arith, omega arith)
five_ends bytes a b c d e ab bc cd de top (suc (suc zero)) lt = (omega arith, omega arith)
five_ends bytes a b c d e ab bc cd de top (suc (suc (suc zero))) lt = (omega arith, omega arith)
five_ends bytes a b c d e ab bc cd de top (suc (suc (suc (suc zero)))) lt = (omega arith, omega arith)
five_ends bytes a b c d e ab bc cd de top (suc (suc (suc (suc (suc k))))) lt = absurd (omega (arith, lt))

-- a list of five, element by element
pub five_fields : (row : List (List ℕ)) → length row ≡ 5 → field_of row 0 ∷ field_of row 1 ∷ field_of row 2 ∷ field_of row 3 ∷ field_of row 4 ∷ [] ≡ row
five_fields [] h = absurd (omega (arith, h))
five_fields (a ∷ []) h = absurd (omega (arith, h))
five_fields (a ∷ b ∷ []) h = absurd (omega (arith, h))
five_fields (a ∷ b ∷ c ∷ []) h = absurd (omega (arith, h))
five_fields (a ∷ b ∷ c ∷ d ∷ []) h = absurd (omega (arith, h))
five_fields (a ∷ b ∷ c ∷ d ∷ e ∷ []) h = refl
five_fields (a ∷ b ∷ c ∷ d ∷ e ∷ f ∷ rest) h = absurd (omega (arith, h))
