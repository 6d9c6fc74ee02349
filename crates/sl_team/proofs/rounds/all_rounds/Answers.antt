use Rattle.std.proofs.Common.{◌≡◌, ◌∙◌, true, ap, sym}
use Rattle.sl_team.specs.Crew.{first_has_left}
use Rattle.sl_team.proofs.Worked.{rounds_fall}
use Rattle.sl_team.proofs.rounds.all_rounds.Goals as goal

pub rounds-smaller : goal.rounds-smaller
rounds-smaller g c =
    let left : first_has_left c.rounds.crew.items ≡ true = ap first_has_left (sym c.deref.ensures.value) ∙ (sym c.any_left.ensures ∙ c.rounds-test.true) in
    rounds_fall c.rounds.crew.items c.one_round.new.crew.items c.rounds.invariant.limits left c.in_ok-one_round.ensures.round
