use Rattle.sl_amend.proofs.Counted.{roll_low}
use Rattle.sl_amend.proofs.joining.join.Goals as goal

pub raise-requires : goal.raise-requires
raise-requires c = λ key. rw c.make_room.ensures.merits (roll_low _ _ _ _ _ c.requires.roll key)
