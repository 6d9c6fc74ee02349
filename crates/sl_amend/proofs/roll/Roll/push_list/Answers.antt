use Rattle.std.proofs.Common.{ℕ, ◌≡◌, ◌+◌, arith}
use Rattle.sl_amend.specs.Merits.{held_at, count_in}
use Rattle.sl_amend.specs.Roll.{lists_of}
use Rattle.sl_amend.proofs.Counted.{roll_held, one_more}
use Rattle.sl_amend.proofs.roll.Roll.push_list.Goals as goal

pub raise_all-requires : goal.raise_all-requires
raise_all-requires c = λ key. rw (c.make_room.ensures.merits, c.deref.ensures.value) (omega (arith, roll_held _ _ _ _ _ c.requires.roll key, c.requires.few))

pub returns-clause-roll : goal.returns-clause-roll
returns-clause-roll c =
    let roll = c.args.self.now in
    let list = c.args.list.items in
    let room = c.make_room.ensures in
    let push = c.push_applicant.ensures in
    let raised = c.in_ok-raise_all.ensures in
    let trees = rw room.merits at raised.trees in
    let held : (key : ℕ) → held_at c.raise_all.new.self key ≡ held_at roll.merits key + count_in roll.merits.trees.items key list =
    λ key. rw (room.merits, c.deref.ensures.value) at (raised.held key) in
    let more = one_more roll.merits c.raise_all.new.self (lists_of roll) roll.present.items roll.applicants roll.applications list c.requires.roll trees c.requires.in_order c.requires.few_applicants c.requires.few held in
    rw (push.merits, push.lists, push.present, push.applicants, push.applications, room.lists, room.present, room.applicants, room.applications) more
