use Rattle.std.proofs.Common.{◌≡◌, ◌<◌, ℕ, [], length, get_or}
use Rattle.sl_instance.specs.Assembly.{chosen_by}
use Rattle.sl_instance.specs.Lists.{IsSortedOf}
use Rattle.sl_instance.proofs.lists.sorted_lists.Given as goal

-- the lists so far
abbrev pub invariant-applicants : goal.invariant-applicants
invariant-applicants l = record {
  each : length l.lists ≡ l.app;
  sorted : (a : ℕ) → a < l.app → IsSortedOf (chosen_by l.choices.rows a) (get_or l.lists a []);
}
