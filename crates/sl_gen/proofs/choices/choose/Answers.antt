use Rattle.std.proofs.Common.{refl, arith}
use Rattle.std.proofs.lemmas.List.FromFn.{map-range_with_len_more}
use Rattle.sl_gen.specs.Choices.{choice_numbered}
use Rattle.sl_gen.proofs.choices.choose.Goals as goal

pub loop-choice-preserved : goal.loop-choice-preserved
loop-choice-preserved c =
    let more = map-range_with_len_more (choice_numbered c.args.progs c.args.app) 0 c.loop-choice.choice c.loop-choice.choice (omega arith) in
    rw (c.in_ok-push.ensures.items, c.loop-choice.invariant, c.choice_numbered.ensures, more) refl
