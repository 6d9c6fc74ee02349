use Rattle.std.proofs.Common.{◌≡◌, ◌<◌, length, All}
use Rattle.sl_laws.specs.Stable.{leads}
use Rattle.sl_laws.proofs.plain.leads.Given as goal

abbrev pub invariant-loop-rest : goal.invariant-loop-rest
invariant-loop-rest l = record {
  within : All (λ e. e.prog.0 < length l.instance.progs) l.rest;
  same : leads l.instance l.from.0 l.to.0 l.rest ≡ leads l.instance l.from.0 l.to.0 l.fn.choices;
}

abbrev pub decreases-loop-rest : goal.decreases-loop-rest
decreases-loop-rest l = length l.rest
