use Rattle.std.proofs.Common.{◌≡◌, ℕ, ◌<◌, List, ap, subst, arith, ◌∙◌}
use Rattle.std.specs.Prelude.{slice_index}
use Rattle.sl_laws.specs.Limits.{Limits, effective_limit}
use Rattle.sl_laws.specs.Stable.{IsJustified}
use Rattle.sl_laws.specs.Raises.{zeros}
use Rattle.sl_floor.proofs.Settling.{two_zeros}
use Rattle.sl_watch.proofs.tests.begin.Goals as goal

pub returns : goal.returns
returns g c =
    let none : slice_index c.args.zeros.now ≡ zeros = ap (λ (l : List ℕ). slice_index l) c.requires.zeros ∙ two_zeros in
    let few = c.requires.few in let within = c.requires.within in (
      omega (arith, few, within),
      (subst (λ (t : Limits). effective_limit c.args.instance.now t c.args.raise.pool.0 < c.args.raise.limit) none c.rise.ensures.above, subst (λ (t : Limits). IsJustified c.args.instance.now t c.args.raise.pool.0 c.args.raise.limit) none c.rise.ensures.justified),
      tt,
    )
