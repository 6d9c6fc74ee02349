use Rattle.std.proofs.Common.{◌≡◌, ◌∙◌, ◌∷◌, [], ap, subst}
use Rattle.sl_types.specs.Market.{Market}
use Rattle.sl_laws.specs.Raises.{Replays}
use Rattle.sl_proof.specs.Progress.{Progress}
use Rattle.sl_team.proofs.tests.kept_raise.Goals as goal

pub returns : goal.returns
returns g c =
    let one = c.in-Ok.ensures.replays [] c.in_ok-replay.ensures.begun in
    let same : c.add.new.self.instance ≡ c.args.instance.now = ap (λ (p : Progress). p.instance) c.in-Ok.ensures.added ∙ c.in_ok-replay.ensures.instance in
    subst (λ (m : Market). Replays m (c.args.raise ∷ [])) same one.replays
