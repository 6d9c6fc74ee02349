use Rattle.std.proofs.Common.{◌≡◌, ℕ, ◌-◌, take}
use Rattle.sl_amend.specs.Merits.{held_at, count_in}
use Rattle.sl_amend.proofs.merits.Merits.lower_all.Given as goal

abbrev pub invariant-choices : goal.invariant-choices
invariant-choices l =
    (l.self.trees.items ≡ l.initial.self.trees.items)
    × ((key : ℕ) → held_at l.self key ≡ held_at l.initial.self key - count_in l.initial.self.trees.items key (take l.choice-index l.choices))
