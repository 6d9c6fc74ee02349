use Rattle.std.proofs.Common.{◌≡◌, ◌∙◌, nat_eq, reverse}
use Rattle.sl_choices.specs.Rows.{rows_of_app}
use Rattle.sl_choices.proofs.Numbers.{any_reversed}
use Rattle.sl_choices.proofs.marked_rows.MarkedRows.takes_place.Goals as goal

pub returns : goal.returns
returns c =
    let rows = rows_of_app c.args.app.0 c.args.self.now.chains.rows.items in
    let own : c.deref.result.now ≡ reverse rows = c.deref.ensures.value ∙ c.in_ok-find_own.ensures in
    c.takes_place.ensures ∙ rw own (any_reversed (λ row. nat_eq row.place c.args.place) rows)
