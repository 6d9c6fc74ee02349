use Rattle.sl_contend.proofs.Lawful.{best_stays_justified as law}
use Rattle.sl_contend.proofs.theorems.best_stays_justified.Goals as goal

pub returns : goal.returns
returns g c = law (g.R.RaiseRule.covers c.args.rule.now) (g.met.R.RaiseRule.stays_justified c.args.rule.now)
