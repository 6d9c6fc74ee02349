use Rattle.std.proofs.Common.{◌++◌, List, length, arith, sym, subst}
use Rattle.sl_types.specs.declared.kinds.Logged.{Logged}
use Rattle.sl_floor.specs.declared.shares.TheConstants.{WHOLE_SHARE}
use Rattle.sl_team.specs.Rounds.{halved}
use Rattle.sl_team.specs.Crew.{AreBack, first_known, total_of}
use Rattle.sl_team.proofs.Levels.{some_crew}
use Rattle.sl_team.proofs.Worked.{enough, may_work, round_rests, round_keeps}
use Rattle.sl_team.proofs.rounds.one_round.Goals as goal

pub split_all-requires-clause-few : goal.split_all-requires-clause-few
split_all-requires-clause-few g c = let few = c.requires.state.few in omega (arith, few)

pub work_crew-requires-clause-seats : goal.work_crew-requires-clause-seats
work_crew-requires-clause-seats g c _ _ =
    let was = c.requires.state in
    let crew = c.args.crew.now.items in
    let large = enough (total_of crew) (length c.args.floor.now.market.pools) (first_known crew) was.limits was.long c.requires.pools (was.lasts c.requires.left) in
    let seats = may_work c.args.floor.now c.args.room (first_known crew) (halved 7 WHOLE_SHARE) (halved 7 (total_of crew)) c.split_all.new.crew.items was.limits c.requires.room.1 (omega (arith, large)) c.in_ok-split_all.ensures.crew.each c.in_ok-split_all.ensures.allowances in
    seats

pub join_all-requires-clause-some : goal.join_all-requires-clause-some
join_all-requires-clause-some g c =
    let some = some_crew _ c.split_all.new.crew.items c.in_ok-split_all.ensures.crew.logs in
    let same = c.work_crew.ensures.length in
    omega (arith, some, same)

pub join_all-requires-clause-crew : goal.join_all-requires-clause-crew
join_all-requires-clause-crew g c =
    round_rests c.args.floor.now c.args.room c.args.gathered.now.items c.args.crew.now.items c.split_all.new.crew.items c.work_crew.new.crew.items c.args.spares.now.items c.requires.room.0 c.requires.room.1 c.requires.state
    c.in_ok-split_all.ensures.crew c.in_ok-split_all.ensures.count c.work_crew.ensures.length c.work_crew.ensures.each

pub returns-clause-state : goal.returns-clause-state
returns-clause-state g c =
    (round_keeps c.args.floor.now c.args.room c.args.gathered.now.items c.args.crew.now.items c.split_all.new.crew.items c.work_crew.new.crew.items c.args.spares.now.items c.requires.room.0 c.requires.room.1 c.requires.state
    c.in_ok-split_all.ensures.crew c.in_ok-split_all.ensures.count c.work_crew.ensures.length c.work_crew.ensures.each
    c.join_all.new.gathered.items c.join_all.new.crew.items c.split_all.new.spares.items c.join_all.new.spares.items c.requires.left c.in_ok-split_all.ensures.spares c.join_all.ensures.one c.join_all.ensures.memory c.join_all.ensures.spares c.join_all.ensures.count (λ known before total team. c.join_all.ensures.team known before total (subst (λ (l : List Logged). AreBack c.args.floor.now c.args.room known (before ++ l) total c.work_crew.new.crew.items) (sym c.reserve.ensures.items) team))).0

pub returns-clause-round : goal.returns-clause-round
returns-clause-round g c =
    (round_keeps c.args.floor.now c.args.room c.args.gathered.now.items c.args.crew.now.items c.split_all.new.crew.items c.work_crew.new.crew.items c.args.spares.now.items c.requires.room.0 c.requires.room.1 c.requires.state
    c.in_ok-split_all.ensures.crew c.in_ok-split_all.ensures.count c.work_crew.ensures.length c.work_crew.ensures.each
    c.join_all.new.gathered.items c.join_all.new.crew.items c.split_all.new.spares.items c.join_all.new.spares.items c.requires.left c.in_ok-split_all.ensures.spares c.join_all.ensures.one c.join_all.ensures.memory c.join_all.ensures.spares c.join_all.ensures.count (λ known before total team. c.join_all.ensures.team known before total (subst (λ (l : List Logged). AreBack c.args.floor.now c.args.room known (before ++ l) total c.work_crew.new.crew.items) (sym c.reserve.ensures.items) team))).1
