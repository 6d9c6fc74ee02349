use Rattle.std.proofs.Common.{refl}
use Rattle.sl_amend.proofs.Growing.{grown_one}
use Rattle.sl_amend.proofs.marking.flag.Goals as goal

pub returns-clause-grown : goal.returns-clause-grown
returns-clause-grown c = grown_one c.args.flags.now _ c.args.todo.now.items c.push.new.self.items c.args.pool c.requires.within c.if-flags-pool.false refl c.in-Ok.ensures.items
