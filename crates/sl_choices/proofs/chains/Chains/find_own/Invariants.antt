use Rattle.std.proofs.Common.{◌≡◌, ◌<◌, ◌≤◌, ◌-◌, ◌++◌, length, reverse, take, get_or}
use Rattle.sl_choices.specs.Chains.{no_row}
use Rattle.sl_choices.specs.Rows.{rows_of_app}
use Rattle.sl_choices.proofs.chains.Chains.find_own.Given as goal

abbrev pub invariant-rows : goal.invariant-rows
invariant-rows l = record {
  within : l.link ≤ length l.self.rows.items;
  so_far : reverse (rows_of_app l.fn.app.0 l.self.rows.items) ≡ l.own.items ++ reverse (rows_of_app l.fn.app.0 (take l.link l.self.rows.items));
  own : 0 < l.link → (get_or l.self.rows.items (l.link - 1) no_row).app.0 ≡ l.fn.app.0;
}

abbrev pub decreases-rows : goal.decreases-rows
decreases-rows l = l.link
