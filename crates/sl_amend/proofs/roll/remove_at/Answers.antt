use Rattle.std.specs.Prelude.{remove}
use Rattle.sl_amend.proofs.Written.{list_written}
use Rattle.sl_amend.proofs.roll.remove_at.Goals as goal

pub returns-clause-lists : goal.returns-clause-lists
returns-clause-lists c =
    list_written c.args.lists.now c.args.app c.remove.new.self c.index-lists-app.result (λ es. remove es c.args.at) c.requires.known c.remove.ensures.items
