use Rattle.sl_contend.proofs.Lawful.{best_is_local as law}
use Rattle.sl_contend.proofs.theorems.best_is_local.Goals as goal

pub returns : goal.returns
returns g c = law (g.R.RaiseRule.covers c.args.rule.now) (g.met.R.RaiseRule.is_local c.args.rule.now)
