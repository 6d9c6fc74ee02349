-- A file has no more records than bytes, and one.
use Rattle.std.proofs.Common.{◌<◌, ◌≤◌, ◌+◌, ◌^◌, ℕ, zero, suc, List, [], ◌∷◌, length, Option, Some, None, arith, inl, inr, ap, length-append}
use Rattle.std.proofs.lemmas.List.{length-drop}
use Rattle.std.proofs.lemmas.Bool.{cases_Bool}
use Rattle.csv.specs.Machine.{Read, next_record}
use Rattle.csv.specs.Reading.{records_from, records_next, default_config, strip_bom, is_bom}
use Rattle.csv.specs.declared.parser.State.{State}
use Rattle.csv.specs.declared.parser.State.TheVariants as st
use Rattle.sl_codes.specs.Records.{Record, records_of}
use Rattle.sl_codes.specs.Faults.{Form}
use Rattle.sl_codes.proofs.FirstFault.{IsReadTo}

next_few : (fuel : ℕ) (more : State → List ℕ → List Record) → ((state : State) (bytes : List ℕ) → length (more state bytes) ≤ fuel) → (o : Option Read) → length (records_next more o) ≤ suc fuel
next_few fuel more h None = omega arith
next_few fuel more h (Some p) = let rest = h p.1 p.2 in omega (arith, rest)

by_turns : (fuel : ℕ) (state : State) (bytes : List ℕ) → length (records_from default_config fuel state bytes) ≤ fuel
unfolding records_from
by_turns zero state bytes = omega arith
by_turns (suc fuel) state bytes = next_few fuel (records_from default_config fuel) (λ s bs. by_turns fuel s bs) (next_record default_config state [] [] bytes)

shorter : (bytes : List ℕ) → length (strip_bom bytes) ≤ length bytes
unfolding strip_bom
shorter [] = omega arith
shorter (a ∷ []) = omega arith
shorter (a ∷ b ∷ []) = omega arith
shorter (a ∷ b ∷ c ∷ rest) = elim (cases_Bool (is_bom a b c)) [
  | inl e ↦ rw e (omega arith)
  | inr e ↦ rw e (omega arith)
]

pub few_records : (bytes : List ℕ) → length (records_of bytes) ≤ length bytes + 1
few_records bytes =
    let turns = by_turns (length (strip_bom bytes) + 1) st.StartRecord (strip_bom bytes) in
    let short = shorter bytes in
    omega (arith, turns, short)

-- those that were read before one more
pub read_few : (bytes : List ℕ) (form : Form) (read left : List Record) → length bytes ≤ 2 ^ 28 → IsReadTo form (records_of bytes) read left → length read < 2 ^ 28 + 2
read_few bytes form read left short h =
    let few = few_records bytes in
    let rows = ap length h.rows in
    let sum = length-append read left in
    let size = length-drop 1 (records_of bytes) in
    omega (arith, few, short, rows, sum, size)
