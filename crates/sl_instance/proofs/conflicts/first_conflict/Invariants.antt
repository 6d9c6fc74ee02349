use Rattle.std.proofs.Common.{◌≡◌, ◌<◌, ℕ, false, nat_eq, map, take}
use Rattle.std.specs.HashMap.{get}
use Rattle.sl_instance.specs.Conflicts.{is_conflicted}
use Rattle.sl_instance.specs.Causes.{keyed_row}
use Rattle.sl_instance.proofs.Keys.{first_value, AllAgree}
use Rattle.sl_instance.proofs.conflicts.first_conflict.Given as goal

-- no row so far is in conflict, and the values are those of the first rows of their keys
abbrev pub invariant-loop-at : goal.invariant-loop-at
invariant-loop-at l = record {
  clear : (k : ℕ) → k < l.at → is_conflicted (map (keyed_row l.agreement l.trees) l.rows) k ≡ false;
  known : (q : ℕ) → get nat_eq l.values q ≡ first_value q (take l.at (map (keyed_row l.agreement l.trees) l.rows));
  agree : AllAgree (take l.at (map (keyed_row l.agreement l.trees) l.rows));
}
