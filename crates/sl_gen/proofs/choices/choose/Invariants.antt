use Rattle.std.proofs.Common.{◌≡◌, map}
use Rattle.std.specs.List.{range_with_len}
use Rattle.sl_gen.specs.Choices.{choice_numbered}
use Rattle.sl_gen.proofs.choices.choose.Given as goal

abbrev pub invariant-loop-choice : goal.invariant-loop-choice
invariant-loop-choice l = l.choices.items ≡ map (choice_numbered l.progs l.app) (range_with_len 0 l.choice)
