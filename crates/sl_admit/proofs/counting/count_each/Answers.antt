use Rattle.std.proofs.Common.{◌≡◌, ◌∙◌, length, arith}
use Rattle.sl_admit.specs.Counting.{is_in, chosen_by}
use Rattle.sl_admit.proofs.Counted.{count_more, count_low, each_counted, of_limits}
use Rattle.sl_admit.proofs.counting.count_each.Goals as goal

pub count_choice-requires-clause-room : goal.count_choice-requires-clause-room
count_choice-requires-clause-room c P h =
    let kept = c.loop-number.invariant.counted P h in
    let low = count_low (λ a. is_in c.args.instance.now P (chosen_by c.args.instance.now c.args.admitted.now a)) c.loop-number.number in
    let all = c.applicants-number-end.ensures in
    omega (arith, kept, low, all.few, all.count, c.loop-number-test.true)

pub loop-number-preserved : goal.loop-number-preserved
loop-number-preserved c = record {
  each = c.count_choice.ensures.sizes ∙ c.loop-number.invariant.each;
  counted = λ P h.
      let kept = c.loop-number.invariant.counted P h in
      let more = count_more (λ a. is_in c.args.instance.now P (chosen_by c.args.instance.now c.args.admitted.now a)) c.loop-number.number in
      let here = c.count_choice.ensures.counts P h in
      omega (arith, kept, more, here);
}

pub returns : goal.returns
returns c =
    let all : c.loop-number.number ≡ length c.args.instance.now.lists = let n = c.applicants-number-end.ensures.count in omega (arith, n) in
    let each = each_counted c.args.instance.now c.args.admitted.now c.loop-number.counts c.loop-number.number all c.loop-number.invariant.each c.loop-number.invariant.counted in
    record {
      counts = each;
      of_limits = λ t is. of_limits c.args.instance.now t c.args.admitted.now c.loop-number.counts is each;
    }
