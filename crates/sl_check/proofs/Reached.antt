-- From what a replay keeps to the verdicts.
use Rattle.std.proofs.Common.{◌≡◌, ◌<◌, ℕ, List, length, sym, subst, slice_index}
use Rattle.sl_types.specs.declared.kinds.Raise.{Raise}
use Rattle.sl_types.specs.declared.kinds.PoolId.{PoolId}
use Rattle.sl_types.specs.Market.{Market}
use Rattle.sl_laws.specs.Limits.{Limits}
use Rattle.sl_laws.specs.Stable.{IsSettled}
use Rattle.sl_laws.specs.Raises.{Replays, Proves, limits_after}
use Rattle.sl_proof.specs.Progress.{Progress, HasReplayed}
use Rattle.sl_proof.proofs.Adding.{kept_limits}
use Rattle.sl_check.specs.declared.verdict.Verdict.TheVariants.{Unsettled, LimitWrong}
use Rattle.sl_check.specs.Verdict.{IsLowestWithout, IsLimit, IsVerdict, AreSettled}

module _ (market : Market) (raises : List Raise) (limits : List ℕ) (kept : Progress) (same : kept.instance ≡ market) (replayed : HasReplayed kept raises) where
  replays_here : Replays market raises
  replays_here = subst (λ (m : Market). Replays m raises) same replayed.replays

  -- what holds at the limits that are kept holds at those that the raises reach
  at_reached : (F : Limits → Type 0) → F (slice_index kept.limits) → F (limits_after raises)
  at_reached F h = subst F (kept_limits kept raises replayed) h

  -- the verdict on a pool that isn't settled
  pub unsettled_at : (admitted counts : List ℕ) (P : PoolId) → IsLowestWithout (length market.pools) (IsSettled market (slice_index kept.limits)) P.0 → IsVerdict market raises limits admitted counts (Unsettled P)
  unsettled_at admitted counts P h = (replays_here, at_reached (λ t. IsLowestWithout (length market.pools) (IsSettled market t) P.0) h)

  -- the verdict on a pool whose limit is wrong
  pub limit_wrong_at : (admitted counts : List ℕ) (P : PoolId) → AreSettled market (slice_index kept.limits) → IsLowestWithout (length market.pools) (IsLimit market (slice_index kept.limits) limits) P.0
      → IsVerdict market raises limits admitted counts (LimitWrong P)
  limit_wrong_at admitted counts P settled h = (replays_here, at_reached (AreSettled market) settled, at_reached (λ t. IsLowestWithout (length market.pools) (IsLimit market t limits) P.0) h)

  -- where there is neither, the raises prove the limits
  pub limits_proved : AreSettled market (slice_index kept.limits) → ((P : ℕ) → P < length market.pools → IsLimit market (slice_index kept.limits) limits P) → Proves market raises (slice_index limits)
  limits_proved settled right = (
    replays_here,
    λ P within. (
      at_reached (AreSettled market) settled P within,
      sym (at_reached (λ t. IsLimit market t limits P) (right P within)),
    ),
  )
