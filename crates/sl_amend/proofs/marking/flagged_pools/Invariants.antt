use Rattle.std.proofs.Common.{◌≡◌, ℕ, ◌<◌, true}
use Rattle.sl_amend.specs.Flags.{is_flagged, is_listed, AreFlagged}
use Rattle.sl_amend.proofs.marking.flagged_pools.Given as goal

abbrev pub invariant-loop-number : goal.invariant-loop-number
invariant-loop-number l = record {
  flagged : AreFlagged l.flags l.todo.items;
  listed : (P : ℕ) → P < l.number → is_flagged l.flags P ≡ true → is_listed l.todo.items P ≡ true;
}
