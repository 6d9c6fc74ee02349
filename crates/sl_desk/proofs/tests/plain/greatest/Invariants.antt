use Rattle.std.proofs.Common.{◌-◌, slice_index}
use Rattle.sl_laws.specs.Best.{best_raise}
use Rattle.sl_core.proofs.Finding.{Between}
use Rattle.sl_desk.proofs.tests.plain.greatest.Given as goal

abbrev pub invariant-loop-high : goal.invariant-loop-high
invariant-loop-high l = Between l.low l.high (best_raise l.instance (slice_index l.reads) l.pool.0)

abbrev pub decreases-loop-high : goal.decreases-loop-high
decreases-loop-high l = l.high - l.low
