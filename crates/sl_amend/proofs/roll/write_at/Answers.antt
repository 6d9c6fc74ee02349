use Rattle.std.proofs.Common.{set, get_or, refl}
use Rattle.std.specs.Vec.{with_item}
use Rattle.sl_amend.proofs.Written.{list_written}
use Rattle.sl_amend.proofs.roll.write_at.Goals as goal

pub returns : goal.returns
returns c =
    let lists = c.args.lists.now in
    let d = c.index-lists-app.result in
    list_written lists c.args.app (with_item (get_or lists c.args.app d) c.args.at c.args.choice) d (λ es. set es c.args.at c.args.choice) c.requires.known refl
