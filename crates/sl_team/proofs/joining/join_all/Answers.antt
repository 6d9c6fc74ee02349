use Rattle.std.proofs.Common.{◌≡◌, ◌∙◌, ◌++◌, List, length, get_or, ap, sym, subst, arith, append_assoc, length-set, ℕ, ◌*◌}
use Rattle.sl_types.specs.declared.kinds.Logged.{Logged}
use Rattle.sl_team.specs.Crew.{AreBack, AreAtRest, first_memory}
use Rattle.sl_team.specs.Seats.{cleared}
use Rattle.sl_team.proofs.Joined.{one_fewer, two_rooms, join_keeps, join_rests, empty_keeps, empty_rests, no_seat}
use Rattle.sl_team.proofs.joining.join_all.Goals as goal

pub loop-init : goal.loop-init
loop-init c =
    let floor = c.args.floor.now in
    let room = c.args.room in
    let crew = c.args.crew.now.items in
    let is = c.empty_first.ensures.crew no_seat in
    let rests = empty_rests floor room crew no_seat c.requires.some c.requires.crew in
    let long : length c.empty_first.new.crew.items ≡ length crew = ap length is ∙ length-set crew 0 (cleared (get_or crew 0 no_seat)) in
    record {
      crew = subst (AreAtRest floor room) (sym is) rests.0;
      memory = ap first_memory is ∙ rests.1;
      spares = c.requires.spares;
      left = omega (arith, long);
      count = omega (arith, long);
      spare_room = let s = c.requires.spare_room in omega (arith, long, s);
      log_room =
          let same = ap (λ (n : ℕ). n * room) long in
          let few = c.empty_first.ensures.few in
          let wide = c.empty_first.ensures.log_capacity in
          let has = c.requires.log_room in
          omega (arith, same, few, wide, has);
      spare_capacity = omega arith;
      team = λ known before total team.
          let front : (before ++ c.args.gathered.now.items) ++ first_memory crew ≡ before ++ c.empty_first.new.gathered.items =
          append_assoc before c.args.gathered.now.items (first_memory crew) ∙ ap (λ (l : List Logged). before ++ l) (sym c.empty_first.ensures.gathered) in
          let made = empty_keeps floor room known (before ++ c.args.gathered.now.items) total crew no_seat c.requires.some team in
          subst (λ (l : List Logged). AreBack floor room known l total c.empty_first.new.crew.items) front (subst (AreBack floor room known ((before ++ c.args.gathered.now.items) ++ first_memory crew) total) (sym is) made);
    }

pub join_last-requires-clause-two : goal.join_last-requires-clause-two
join_last-requires-clause-two c =
    let is = c.empty_first.ensures.crew no_seat in
    let long : length c.empty_first.new.crew.items ≡ length c.args.crew.now.items = ap length is ∙ length-set c.args.crew.now.items 0 (cleared (get_or c.args.crew.now.items 0 no_seat)) in
    let size = c.empty_first.new.crew.ok.0 in
    let left = c.loop.invariant.left in omega (arith, long, size, left)

pub join_last-requires-clause-log_room : goal.join_last-requires-clause-log_room
join_last-requires-clause-log_room c =
    let two = join_last-requires-clause-two c in
    let most = two_rooms (length c.loop.crew.items) c.args.room two in
    let had = c.loop.invariant.log_room in
    omega (arith, most, had)

pub loop-preserved : goal.loop-preserved
loop-preserved c =
    let floor = c.args.floor.now in
    let room = c.args.room in
    let crew = c.loop.crew.items in
    let later = c.join_last.new.crew.items in
    let joined = c.join_last.ensures.joined in
    let rests = join_rests floor room crew later joined.0 joined.1 c.loop.invariant.memory c.loop.invariant.crew in
    let left = c.loop.invariant.left in
    let count = c.loop.invariant.count in
    let one = c.join_last.ensures.count in
    let fewer = rests.2 in
    record {
      crew = rests.0;
      memory = rests.1;
      spares = c.join_last.ensures.spares;
      left = omega (arith, left, fewer);
      count = omega (arith, count, one, fewer);
      spare_room =
          let s = c.loop.invariant.spare_room in
          let k = c.join_last.ensures.spare_capacity in
          omega (arith, s, k, one, fewer);
      log_room =
          let less = c.join_last.ensures.few in
          let had = c.loop.invariant.log_room in
          let wide = c.join_last.ensures.log_capacity in
          let product = one_fewer (length later) (length crew) room fewer in
          omega (arith, less, had, wide, product);
      spare_capacity = let a = c.loop.invariant.spare_capacity in let b = c.join_last.ensures.spare_capacity in omega (arith, a, b);
      team = λ known before total team.
          let was = c.loop.invariant.team known before total team in
          let made = join_keeps floor room known (before ++ c.loop.gathered.items) total crew later joined.0 joined.1 c.loop.invariant.memory c.loop.invariant.crew.total was in
          let front : (before ++ c.loop.gathered.items) ++ joined.0 ≡ before ++ c.join_last.new.gathered.items =
          append_assoc before c.loop.gathered.items joined.0 ∙ ap (λ (l : List Logged). before ++ l) (sym joined.2) in
          subst (λ (l : List Logged). AreBack floor room known l total later) front made;
    }

pub returns-clause-one : goal.returns-clause-one
returns-clause-one c =
    let is = c.empty_first.ensures.crew no_seat in
    let long : length c.empty_first.new.crew.items ≡ length c.args.crew.now.items = ap length is ∙ length-set c.args.crew.now.items 0 (cleared (get_or c.args.crew.now.items 0 no_seat)) in
    let size = c.empty_first.new.crew.ok.0 in
    let left = c.loop.invariant.left in omega (arith, long, size, left)

pub returns-clause-count : goal.returns-clause-count
returns-clause-count c =
    let is = c.empty_first.ensures.crew no_seat in
    let long : length c.empty_first.new.crew.items ≡ length c.args.crew.now.items = ap length is ∙ length-set c.args.crew.now.items 0 (cleared (get_or c.args.crew.now.items 0 no_seat)) in
    let size = c.empty_first.new.crew.ok.0 in
    let left = c.loop.invariant.left in let count = c.loop.invariant.count in omega (arith, long, size, left, count)

pub join_last-requires-clause-spare_room : goal.join_last-requires-clause-spare_room
join_last-requires-clause-spare_room c =
    let two = join_last-requires-clause-two c in
    let had = c.loop.invariant.spare_room in
    omega (arith, two, had)
