use Rattle.std.proofs.Common.{◌≡◌, map, take}
use Rattle.sl_instance.specs.Assembly.{entry_of}
use Rattle.sl_instance.proofs.lists.put_choices.Given as goal

-- the choices of the rows so far
abbrev pub invariant-rows : goal.invariant-rows
invariant-rows l = l.list.items ≡ map entry_of (take l.row-index l.rows)
