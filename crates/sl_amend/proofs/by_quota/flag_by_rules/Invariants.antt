use Rattle.sl_amend.specs.Touched.{touched_by_quota}
use Rattle.sl_amend.proofs.Done.{AreDone}
use Rattle.sl_amend.proofs.by_quota.flag_by_rules.Given as goal

abbrev pub invariant-loop-number : goal.invariant-loop-number
invariant-loop-number l = AreDone (touched_by_quota l.old l.new) l.number l.fn.flags l.flags
