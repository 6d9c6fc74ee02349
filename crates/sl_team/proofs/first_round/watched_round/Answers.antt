use Rattle.std.proofs.Common.{◌++◌, List, arith, sym, subst}
use Rattle.sl_types.specs.declared.kinds.Logged.{Logged}
use Rattle.sl_team.specs.Crew.{AreBack}
use Rattle.sl_team.proofs.Levels.{some_crew}
use Rattle.sl_team.proofs.Beside.{others_may, as_many, no_log, worked_back, joined_rests, joined_long, watched_keeps}
use Rattle.sl_team.proofs.first_round.watched_round.Goals as goal

pub work_and_watch-requires-clause-seats : goal.work_and_watch-requires-clause-seats
work_and_watch-requires-clause-seats g c _ _ =
    others_may c.args.floor.now c.args.room c.args.gathered.now.items c.args.crew.now.items c.split_all.new.crew.items c.args.spares.now.items c.requires.room.0 c.requires.room.1 c.requires.pools c.requires.state c.requires.undrawn
    c.in_ok-split_all.ensures.crew c.in_ok-split_all.ensures.allowances c.seat_reader-seat.new.crew.items c.seat_reader-seat.result c.seat_reader-seat.ensures.split (some_crew _ c.split_all.new.crew.items c.in_ok-split_all.ensures.crew.logs)

pub join_reader-requires-clause-some : goal.join_reader-requires-clause-some
join_reader-requires-clause-some g c =
    let some = some_crew _ c.split_all.new.crew.items c.in_ok-split_all.ensures.crew.logs in
    let many = as_many c.args.floor.now c.args.room c.args.gathered.now.items c.args.crew.now.items c.split_all.new.crew.items c.args.spares.now.items c.requires.room.0 c.requires.room.1 c.requires.pools c.requires.state c.requires.undrawn
    c.in_ok-split_all.ensures.crew c.in_ok-split_all.ensures.allowances c.seat_reader-seat.new.crew.items c.seat_reader-seat.result c.seat_reader-seat.ensures.split (some_crew _ c.split_all.new.crew.items c.in_ok-split_all.ensures.crew.logs) in
    let same = c.work_and_watch.ensures.length in
    omega (arith, some, many, same)

pub join_reader-requires-clause-first : goal.join_reader-requires-clause-first
join_reader-requires-clause-first g c = λ d.
    (worked_back c.args.floor.now c.args.room c.args.gathered.now.items c.args.crew.now.items c.split_all.new.crew.items c.args.spares.now.items c.requires.room.0 c.requires.room.1 c.requires.pools c.requires.state c.requires.undrawn
    c.in_ok-split_all.ensures.crew c.in_ok-split_all.ensures.allowances c.seat_reader-seat.new.crew.items c.seat_reader-seat.result c.seat_reader-seat.ensures.split (some_crew _ c.split_all.new.crew.items c.in_ok-split_all.ensures.crew.logs)
    c.work_and_watch.new.crew.items c.work_and_watch.new.reader.seat c.seat_reader-seat.ensures.bare c.work_and_watch.ensures.length c.work_and_watch.ensures.each c.work_and_watch.ensures.watched 0 d (join_reader-requires-clause-some g c)).of

pub join_reader-requires-clause-first_idle : goal.join_reader-requires-clause-first_idle
join_reader-requires-clause-first_idle g c = λ d.
    (worked_back c.args.floor.now c.args.room c.args.gathered.now.items c.args.crew.now.items c.split_all.new.crew.items c.args.spares.now.items c.requires.room.0 c.requires.room.1 c.requires.pools c.requires.state c.requires.undrawn
    c.in_ok-split_all.ensures.crew c.in_ok-split_all.ensures.allowances c.seat_reader-seat.new.crew.items c.seat_reader-seat.result c.seat_reader-seat.ensures.split (some_crew _ c.split_all.new.crew.items c.in_ok-split_all.ensures.crew.logs)
    c.work_and_watch.new.crew.items c.work_and_watch.new.reader.seat c.seat_reader-seat.ensures.bare c.work_and_watch.ensures.length c.work_and_watch.ensures.each c.work_and_watch.ensures.watched 0 d (join_reader-requires-clause-some g c)).idle

pub join_reader-requires-clause-log : goal.join_reader-requires-clause-log
join_reader-requires-clause-log g c =
    no_log c.args.floor.now c.args.room c.args.gathered.now.items c.args.crew.now.items c.split_all.new.crew.items c.args.spares.now.items c.requires.room.0 c.requires.room.1 c.requires.pools c.requires.state c.requires.undrawn
    c.in_ok-split_all.ensures.crew c.in_ok-split_all.ensures.allowances c.seat_reader-seat.new.crew.items c.seat_reader-seat.result c.seat_reader-seat.ensures.split (some_crew _ c.split_all.new.crew.items c.in_ok-split_all.ensures.crew.logs)
    c.work_and_watch.new.crew.items c.work_and_watch.new.reader.seat c.seat_reader-seat.ensures.bare c.work_and_watch.ensures.length c.work_and_watch.ensures.each c.work_and_watch.ensures.watched

pub join_all-requires-clause-some : goal.join_all-requires-clause-some
join_all-requires-clause-some g c =
    let some = some_crew _ c.split_all.new.crew.items c.in_ok-split_all.ensures.crew.logs in
    let long = joined_long c.args.floor.now c.args.room c.args.gathered.now.items c.args.crew.now.items c.split_all.new.crew.items c.args.spares.now.items c.requires.room.0 c.requires.room.1 c.requires.pools c.requires.state c.requires.undrawn
    c.in_ok-split_all.ensures.crew c.in_ok-split_all.ensures.allowances c.seat_reader-seat.new.crew.items c.seat_reader-seat.result c.seat_reader-seat.ensures.split (some_crew _ c.split_all.new.crew.items c.in_ok-split_all.ensures.crew.logs)
    c.work_and_watch.new.crew.items c.work_and_watch.new.reader.seat c.seat_reader-seat.ensures.bare c.work_and_watch.ensures.length c.work_and_watch.ensures.each c.work_and_watch.ensures.watched c.join_reader.new.crew.items c.join_reader.ensures in
    omega (arith, some, long)

pub join_all-requires-clause-crew : goal.join_all-requires-clause-crew
join_all-requires-clause-crew g c =
    joined_rests c.args.floor.now c.args.room c.args.gathered.now.items c.args.crew.now.items c.split_all.new.crew.items c.args.spares.now.items c.requires.room.0 c.requires.room.1 c.requires.pools c.requires.state c.requires.undrawn
    c.in_ok-split_all.ensures.crew c.in_ok-split_all.ensures.allowances c.seat_reader-seat.new.crew.items c.seat_reader-seat.result c.seat_reader-seat.ensures.split (some_crew _ c.split_all.new.crew.items c.in_ok-split_all.ensures.crew.logs)
    c.work_and_watch.new.crew.items c.work_and_watch.new.reader.seat c.seat_reader-seat.ensures.bare c.work_and_watch.ensures.length c.work_and_watch.ensures.each c.work_and_watch.ensures.watched c.join_reader.new.crew.items c.join_reader.ensures

pub returns-clause-state : goal.returns-clause-state
returns-clause-state g c =
    watched_keeps c.args.floor.now c.args.room c.args.gathered.now.items c.args.crew.now.items c.split_all.new.crew.items c.args.spares.now.items c.requires.room.0 c.requires.room.1 c.requires.pools c.requires.state c.requires.undrawn
    c.in_ok-split_all.ensures.crew c.in_ok-split_all.ensures.allowances c.seat_reader-seat.new.crew.items c.seat_reader-seat.result c.seat_reader-seat.ensures.split (some_crew _ c.split_all.new.crew.items c.in_ok-split_all.ensures.crew.logs)
    c.work_and_watch.new.crew.items c.work_and_watch.new.reader.seat c.seat_reader-seat.ensures.bare c.work_and_watch.ensures.length c.work_and_watch.ensures.each c.work_and_watch.ensures.watched c.join_reader.new.crew.items c.join_reader.ensures
    c.join_all.new.gathered.items c.join_all.new.crew.items c.split_all.new.spares.items c.join_all.new.spares.items c.in_ok-split_all.ensures.count c.requires.few c.in_ok-split_all.ensures.spares c.join_all.ensures.one c.join_all.ensures.memory c.join_all.ensures.spares c.join_all.ensures.count
    (λ known before total team. c.join_all.ensures.team known before total (subst (λ (l : List Logged). AreBack c.args.floor.now c.args.room known (before ++ l) total c.join_reader.new.crew.items) (sym c.reserve.ensures.items) team))
