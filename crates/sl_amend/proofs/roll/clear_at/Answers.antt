use Rattle.std.proofs.Common.{[]}
use Rattle.sl_amend.proofs.Written.{list_written}
use Rattle.sl_amend.proofs.roll.clear_at.Goals as goal

pub returns : goal.returns
returns c =
    list_written c.args.lists.now c.args.app c.clear.new.self c.index-lists-app.result (λ es. []) c.requires.known c.clear.ensures.items
