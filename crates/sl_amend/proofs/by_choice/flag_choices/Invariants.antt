use Rattle.std.proofs.Common.{length, take}
use Rattle.sl_contend.specs.Contention.{has_choice_in}
use Rattle.sl_amend.specs.Touched.{IsFlaggedBy}
use Rattle.sl_amend.proofs.by_choice.flag_choices.Given as goal

abbrev pub invariant-loop-choice : goal.invariant-loop-choice
invariant-loop-choice l = IsFlaggedBy (λ P. has_choice_in l.instance (take l.choice-index l.choices) P) (length l.instance.pools) l.fn.flags l.flags
