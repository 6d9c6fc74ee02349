use Rattle.std.proofs.Common.{◌≡◌}
use Rattle.sl_nesting.specs.Inside.{children_from}
use Rattle.sl_nesting.proofs.inner.first_child.Given as goal

abbrev pub invariant-loop-at : goal.invariant-loop-at
invariant-loop-at l = children_from l.instance l.pool.0 l.at ≡ children_from l.instance l.pool.0 l.low
