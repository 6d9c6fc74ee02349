-- A pool that one other feeds, settled step by step.
use Rattle.std.proofs.Common.{zero, suc, [], ◌∷◌, refl, ◌≡◌, ◌≢◌, ℕ, ◌+◌, ◌<◌, ◌≤◌, true, false, not, cond, nat_eq, List, length, get_or, set, ap, ◌∙◌, arith, get_or-set_other}
use Rattle.std.specs.Prelude.{slice_index}
use Rattle.std.proofs.lemmas.Bool.{and_from, or_right, lt-ltb, le-ltb, not_from_false, cond-true}
use Rattle.sl_types.specs.declared.kinds.PoolId.{PoolId}
use Rattle.sl_types.specs.Market.{Market}
use Rattle.sl_types.specs.WellFormed.{IsWellFormed}
use Rattle.sl_laws.specs.Limits.{effective_limit}
use Rattle.sl_laws.specs.Stable.{feeds, IsJustified}
use Rattle.sl_laws.specs.Best.{best_raise}
use Rattle.sl_laws.specs.Raises.{zeros}
use Rattle.sl_laws.proofs.Slices.{same_limits}
use Rattle.sl_core.specs.declared.kinds.Phase.{Phase}
use Rattle.sl_core.specs.declared.kinds.Phase.TheVariants.{Idle, Working, Ready}
use Rattle.sl_core.specs.State.{Actor, no_pools}
use Rattle.sl_core.specs.Machine.{is_asked, lacks_read, actor_after_read, phase_found}
use Rattle.sl_core.proofs.Actors.{replicate_same}
use Rattle.sl_core.proofs.Finding.{reaches, passes_by}
use Rattle.sl_core.proofs.Ranges.{lacks_here}

module _ (market : Market) (a : Actor) (P : PoolId) (R : ℕ) (is : a.phase ≡ Working P) (within : P.0 < length market.pools) (inside : R < length market.pools) (two : R ≢ P.0) (fed : feeds market R P.0 ≡ true) where
  module _ (none : a.made ≡ no_pools market) where
    none_made : (Q : ℕ) → get_or a.made Q false ≡ false
    none_made Q = ap (λ l. get_or l Q false) none ∙ replicate_same (length market.pools) Q false

    pub first_phase : (word : ℕ) → (actor_after_read market a.phase a P.0 word).phase ≡ Working P
    first_phase word =
        let made = set a.made P.0 true in
        let lacks = lacks_here market P.0 R made inside (and_from (is_asked market P.0 R) (not (get_or made R false)) (or_right (nat_eq R P.0) (feeds market R P.0) fed) (not_from_false (get_or made R false) (get_or-set_other a.made P.0 R true false two ∙ none_made R))) in
        ap (λ (ph : Phase). (actor_after_read market ph a P.0 word).phase) is ∙ cond-true (lacks_read market P.0 made) (Working P) (phase_found market P (set a.reads P.0 word)) lacks

-- where x is justified at the reads and x + 1 isn't, and x is above the effective limit, the raise to x is ready
pub found_ready : (market : Market) → IsWellFormed market → (P : PoolId) (reads : List ℕ) (x : ℕ) → P.0 < length market.pools → 1 ≤ x → IsJustified market (slice_index reads) P.0 x → (IsJustified market (slice_index reads) P.0 (x + 1) → ⊥)
    → effective_limit market (slice_index reads) P.0 < x → phase_found market P reads ≡ Ready P x
found_ready market ok P reads x within some just no_more above =
    let low = reaches market ok (slice_index reads) P.0 x within some just in
    let high = passes_by market ok (slice_index reads) P.0 (x + 1) within (omega arith) no_more in
    let best : best_raise market (slice_index reads) P.0 ≡ x = omega (arith, low, high) in
    ap (λ b. cond b (Ready P (best_raise market (slice_index reads) P.0)) Idle) (lt-ltb (effective_limit market (slice_index reads) P.0) (best_raise market (slice_index reads) P.0) (omega (arith, best, above))) ∙ ap (Ready P) best

-- and where none above the effective limit is justified, nothing is
pub found_idle : (market : Market) → IsWellFormed market → (P : PoolId) (reads : List ℕ) → P.0 < length market.pools → (IsJustified market (slice_index reads) P.0 (effective_limit market (slice_index reads) P.0 + 1) → ⊥) → phase_found market P reads ≡ Idle
found_idle market ok P reads within none =
    let high = passes_by market ok (slice_index reads) P.0 (effective_limit market (slice_index reads) P.0 + 1) within (omega arith) none in
    ap (λ b. cond b (Ready P (best_raise market (slice_index reads) P.0)) Idle) (le-ltb (effective_limit market (slice_index reads) P.0) (best_raise market (slice_index reads) P.0) (omega (arith, high)))

-- two numbers 0 are the limits where each list of raises starts
pub two_zeros : slice_index (0 ∷ 0 ∷ []) ≡ zeros
two_zeros = same_limits (slice_index (0 ∷ 0 ∷ [])) zeros at
  where
    at : (Q : ℕ) → slice_index (0 ∷ 0 ∷ []) Q ≡ 0
    at zero = refl
    at (suc zero) = refl
    at (suc (suc Q)) = refl
