use Rattle.std.proofs.Common.{◌≤◌, arith, length, subst}
use Rattle.std.proofs.lemmas.Result.{IfOk-weaker}
use Rattle.sl_types.specs.declared.kinds.TheConstants.{MAX_APPLICANTS}
use Rattle.sl_types.specs.Market.{Market}
use Rattle.sl_types.specs.WellFormed.{IsWellFormed}
use Rattle.sl_run.specs.Result.{IsResultOf}
use Rattle.sl_run.proofs.Ranges.{result_in_range}
use Rattle.sl_run.proofs.watch.watched_result.Goals as goal

pub returns-clause-in_range : goal.returns-clause-in_range
returns-clause-in_range g c =
    let market = c.args.named.now.market in
    let is = c.instance-instance.ensures.market in
    let well = subst IsWellFormed is c.pools-pools.ensures.well_formed in
    let count = c.applicants-applicants.ensures.count in
    let low = c.applicants-applicants.ensures.few in
    let here : length c.instance-instance.result.now.lists ≤ MAX_APPLICANTS = omega (arith, count, low) in
    let few = subst (λ (m : Market). length m.lists ≤ MAX_APPLICANTS) is here in
    IfOk-weaker c.watched_of.result _ _ (λ w result. result_in_range c.args.named.now w.0 well few (subst (λ (m : Market). IsResultOf m w.0) is result)) c.watched_of.ensures.result
