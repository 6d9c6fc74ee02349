use Rattle.std.proofs.Common.{◌≡◌}
use Rattle.sl_gen.specs.Choices.{lists_between}
use Rattle.sl_gen.proofs.lists.lists_among.Given as goal

abbrev pub invariant-loop-app : goal.invariant-loop-app
invariant-loop-app l = l.lists ≡ lists_between l.progs l.first l.app
