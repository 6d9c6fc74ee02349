use Rattle.std.proofs.Common.{◌<◌, [], List, length, sym, subst, arith}
use Rattle.sl_floor.specs.Floor.{SeatValue}
use Rattle.sl_team.specs.Rounds.{IsBetween}
use Rattle.sl_team.proofs.Opened.{opened}
use Rattle.sl_team.proofs.clearing.clear.Goals as goal

pub run_rounds-requires-clause-state : goal.run_rounds-requires-clause-state
run_rounds-requires-clause-state g c _ _ =
    let floor = c.in_ok-floor.floor in
    let seat = c.in_ok-floor.seat in
    let spares = c.in_ok-spares.spares.items in
    let count = c.in_ok-spares.ensures.count in
    let workers = c.requires.workers.1 in
    let few : length spares < 65 = omega (arith, count, workers) in
    let f = c.in_ok-floor.ensures.floor in
    let l = c.in_ok-floor.ensures.log in
    subst (λ (crew : List SeatValue). IsBetween floor c.args.room [] crew spares) (sym c.in_ok-crew.ensures)
    (opened c.args.instance.now c.args.kept.now floor seat c.args.room spares c.pools-pools.ensures.well_formed c.requires.kept f.0 f.1 c.in_ok-floor.ensures.table c.in_ok-floor.ensures.seat l.0 l.1 (c.in_ok-spares.ensures.spares floor f.0) few)
