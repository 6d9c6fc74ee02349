-- Lists with a raise at their end, and that the least stable limits are one vector.
use Rattle.std.proofs.Common.{◌≡◌, ◌<◌, List, [], ◌∷◌, ◌++◌, length, refl, arith}
use Rattle.sl_types.specs.declared.kinds.Raise.{Raise}
use Rattle.sl_types.specs.Market.{Market}
use Rattle.sl_laws.specs.Limits.{Limits}
use Rattle.sl_laws.specs.Raises.{MayCome, EachRaise, after_raise, after_raises, zeros}
use Rattle.sl_laws.specs.Laws.{LeastIsOne, ReplaysByEnd, ReachesByEnd}

-- where a list with a raise at its end leads
pub after_raises-push : (t : Limits) (c : List Raise) (r : Raise) → after_raises t (c ++ r ∷ []) ≡ after_raise (after_raises t c) r
after_raises-push t [] r = refl
after_raises-push t (s ∷ c) r = after_raises-push (after_raise t s) c r

module _ (market : Market) (F : Limits → Raise → Type 0) where
  -- each raise of such a list is F where those of its front are, and that raise is F there
  pub EachRaise-push : (t : Limits) (c : List Raise) (r : Raise) → EachRaise market F t c → r.pool.0 < length market.pools → F (after_raises t c) r → EachRaise market F t (c ++ r ∷ [])
  EachRaise-push t [] r each within here = (within, here, tt)
  EachRaise-push t (s ∷ c) r each within here = (each.0, each.1, EachRaise-push (after_raise t s) c r each.2 within here)

  -- then the raises of its front are
  pub EachRaise-front : (t : Limits) (c : List Raise) (r : Raise) → EachRaise market F t (c ++ r ∷ []) → EachRaise market F t c
  EachRaise-front t [] r each = tt
  EachRaise-front t (s ∷ c) r each = (each.0, each.1, EachRaise-front (after_raise t s) c r each.2)

  -- and the one at its end is
  pub EachRaise-last : (t : Limits) (c : List Raise) (r : Raise) → EachRaise market F t (c ++ r ∷ []) → (r.pool.0 < length market.pools) × F (after_raises t c) r
  EachRaise-last t [] r each = (each.0, each.1)
  EachRaise-last t (s ∷ c) r each = EachRaise-last (after_raise t s) c r each.2

-- a list with a raise at its end replays exactly where its front does, and the raise may come there
pub replays_by_end : (market : Market) → ReplaysByEnd market
replays_by_end market c r = (
  λ all.
      let (within, may) = EachRaise-last market (MayCome market) zeros c r all in
      (EachRaise-front market (MayCome market) zeros c r all, within, may),
  λ parts. EachRaise-push market (MayCome market) zeros c r parts.0 parts.1 parts.2,
)

-- it reaches the limits of its front after that raise
pub reaches_by_end : ReachesByEnd
reaches_by_end c r = after_raises-push zeros c r

-- the least stable limits are one vector
pub least_is_one : (market : Market) → LeastIsOne market
least_is_one market l m least other P P_in =
    let low = least.1 m other.0 P P_in in
    let high = other.1 l least.0 P P_in in
    omega (arith, low, high)
