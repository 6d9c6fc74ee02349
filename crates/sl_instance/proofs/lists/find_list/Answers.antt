use Rattle.std.proofs.Common.{rules}
use Rattle.sl_choices.specs.Rows.{rows_of_app}
use Rattle.sl_instance.proofs.Chosen.{sorted_back}
use Rattle.sl_instance.proofs.lists.find_list.Goals as goal

pub returns : goal.returns
returns c =
    let rows = rows_of_app c.args.app.0 c.args.choices.now.rows in
    sorted_back rows _ (search rules)
