use Rattle.std.proofs.Common.{◌≡◌, ◌≤◌, All, length, vec_capacity}
use Rattle.sl_team.proofs.seen.Seen.new.Given as goal

abbrev pub invariant-loop : goal.invariant-loop
invariant-loop l = record {
  count : length l.seen.items ≡ l.counter;
  capacity : l.looks ≤ vec_capacity l.seen;
  long : All (λ look. length look.items ≡ l.pools) l.seen.items;
}
