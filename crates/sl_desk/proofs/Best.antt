-- What a rule's best raise says of the machine.
use Rattle.std.proofs.Common.{◌≡◌, ℕ, ◌+◌, ◌<◌, ◌≤◌, nat_lt, List, length, Some, None, ap, ◌∙◌, inl, inr, arith, lt-ltb, le-ltb}
use Rattle.std.specs.Prelude.{slice_index}
use Rattle.std.proofs.lemmas.Bool.{cases_lt, cond-true, cond-false}
use Rattle.sl_types.specs.declared.kinds.PoolId.{PoolId}
use Rattle.sl_types.specs.declared.kinds.TheConstants.{MAX_SCORE}
use Rattle.sl_types.specs.Market.{Market}
use Rattle.sl_types.specs.Valid.{IsValid}
use Rattle.sl_types.proofs.Faultless.{well_formed}
use Rattle.sl_laws.specs.Limits.{Limits, effective_limit}
use Rattle.sl_laws.specs.Best.{best_raise}
use Rattle.sl_laws.proofs.Best.{best_decides}
use Rattle.sl_laws.proofs.Nest.{le_limit, lies_own}
use Rattle.sl_core.specs.declared.kinds.Phase.TheVariants.{Idle, Ready}
use Rattle.sl_core.specs.Machine.{phase_found}
use Rattle.sl_core.proofs.Finding.{best_top, reaches}
use Rattle.sl_contend.specs.Rule.{IsBest}
use Rattle.sl_desk.specs.Reading.{after_reads}

-- the best raise of a rule is the machine's
best_same : (market : Market) → IsValid market → (t : Limits) (P x : ℕ) → P < length market.pools → IsBest market t P x → best_raise market t P ≡ x
best_same market ok t P x within best =
    let fine = well_formed market ok in
    let low : best_raise market t P ≤ x = elim (cases_lt 0 (best_raise market t P)) [
      | inl some ↦ best.greatest (best_raise market t P) (omega (arith, some)) ((best_decides market fine t P (best_raise market t P) within (omega (arith, some))).1 (omega arith))
      | inr none ↦ omega (arith, none)
    ] in
    let high : x ≤ best_raise market t P = elim (cases_lt 0 x) [
      | inl some ↦ reaches market fine t P x within (omega (arith, some)) (best.justified (omega (arith, some)))
      | inr none ↦ omega (arith, none)
    ] in omega (arith, low, high)

pub best_low : (market : Market) → IsValid market → (t : Limits) (P x : ℕ) → P < length market.pools → IsBest market t P x → x ≤ MAX_SCORE + 1
best_low market ok t P x within best = let same = best_same market ok t P x within best in let top = best_top market (well_formed market ok) t P within in omega (arith, same, top)

-- where it is above the effective limit, that raise is ready
pub finds_raise : (market : Market) → IsValid market → (P : PoolId) (reads : List ℕ) (x : ℕ) → P.0 < length market.pools → IsBest market (slice_index reads) P.0 x → effective_limit market (slice_index reads) P.0 < x
    → phase_found market P reads ≡ after_reads P (Some x)
finds_raise market ok P reads x within best above =
    let t = slice_index reads in
    let same = best_same market ok t P.0 x within best in
    cond-true (nat_lt (effective_limit market t P.0) (best_raise market t P.0)) (Ready P (best_raise market t P.0)) Idle (lt-ltb (effective_limit market t P.0) (best_raise market t P.0) (omega (arith, same, above))) ∙ ap (Ready P) same

-- and else there is none
pub finds_none : (market : Market) → IsValid market → (P : PoolId) (reads : List ℕ) (x : ℕ) → P.0 < length market.pools → IsBest market (slice_index reads) P.0 x → x ≤ effective_limit market (slice_index reads) P.0
    → phase_found market P reads ≡ after_reads P None
finds_none market ok P reads x within best below =
    let t = slice_index reads in
    let same = best_same market ok t P.0 x within best in
    cond-false (nat_lt (effective_limit market t P.0) (best_raise market t P.0)) (Ready P (best_raise market t P.0)) Idle (le-ltb (effective_limit market t P.0) (best_raise market t P.0) (omega (arith, same, below)))

-- a pool's own number is at most its effective limit
pub own_below : (market : Market) (t : Limits) (P : ℕ) → t P ≤ effective_limit market t P
own_below market t P = le_limit market t P P (lies_own market P)

-- and it is the best raise of a rule
pub best_is : (market : Market) → IsValid market → (t : Limits) (P x : ℕ) → P < length market.pools → best_raise market t P ≡ x → IsBest market t P x
best_is market ok t P x within is = let fine = well_formed market ok in record {
  justified = λ some. (best_decides market fine t P x within some).1 (omega (arith, is));
  greatest = λ y some just. let low = (best_decides market fine t P y within some).0 just in omega (arith, low, is);
}
