use Rattle.std.proofs.Common.{◌≡◌, ◌∷◌, ◌∙◌, length, List, ℕ, ap, sym, arith}
use Rattle.sl_types.specs.declared.kinds.Pool.{Pool}
use Rattle.sl_types.specs.Market.{chain_of, outward}
use Rattle.sl_types.proofs.Chains.{chain_step}
use Rattle.sl_types.proofs.outward.OutwardIterator.next.Goals as goal

pub returns-in-Some-clause-steps : goal.returns-in-Some-clause-steps
returns-in-Some-clause-steps c =
    let market = c.self.inside.instance.now in
    let here = c.in-Some.here.0 in
    sym c.self.view_is ∙ ap (outward (chain_of market)) c.in-Some.is ∙ chain_step market c.pools-pools.ensures.well_formed here
    ∙ ap (λ (pool : Pool). here ∷ outward (chain_of market) pool.parent) (sym c.pool.ensures.value)

pub returns-in-Some-clause-goes : goal.returns-in-Some-clause-goes
returns-in-Some-clause-goes c =
    let market = c.self.inside.instance.now in
    let here = c.in-Some.here.0 in
    let step : c.args.self.now ≡ here ∷ outward (chain_of market) c.pool.result.now.parent =
    sym c.self.view_is ∙ ap (outward (chain_of market)) c.in-Some.is ∙ chain_step market c.pools-pools.ensures.well_formed here
    ∙ ap (λ (pool : Pool). here ∷ outward (chain_of market) pool.parent) (sym c.pool.ensures.value) in
    let fewer = ap (λ (Ps : List ℕ). length Ps) step in
    record { on = λ _. (tt, tt, omega (arith, fewer)); keeps = tt; rests = λ _. tt }
