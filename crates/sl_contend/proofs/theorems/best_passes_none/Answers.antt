use Rattle.sl_contend.proofs.Lawful.{best_passes_none as law}
use Rattle.sl_contend.proofs.theorems.best_passes_none.Goals as goal

pub returns : goal.returns
returns g c = law (g.R.RaiseRule.covers c.args.rule.now) (g.met.R.RaiseRule.passes_none c.args.rule.now)
