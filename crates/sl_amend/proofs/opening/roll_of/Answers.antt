use Rattle.std.proofs.Common.{◌≡◌, ◌∙◌, ◌<◌, ◌+◌, List, true, length, ap, arith}
use Rattle.sl_types.specs.Market.{list_of}
use Rattle.sl_amend.specs.Roll.{programmes}
use Rattle.sl_amend.proofs.ValidLists.{valid_list, replicate_more, lists_more, sizes_more, sizes_low}
use Rattle.sl_amend.proofs.opening.roll_of.Goals as goal

pub push_list-requires-clause-in_order : goal.push_list-requires-clause-in_order
push_list-requires-clause-in_order c =
    let market = c.args.instance.now in
    let k = c.loop-number.number in
    let lt : k < length market.lists = omega (arith, c.loop-number-test.true, c.applicants-number-end.ensures.count) in
    let count : programmes c.loop-number.roll.merits ≡ length market.progs = ap (λ (ts : List _). length ts) c.loop-number.invariant.2 ∙ c.requires in
    let list : c.in_ok-list.list.items ≡ list_of market k = c.in_ok-list.ensures.items ∙ c.list.ensures.value in
    rw (count, list) (valid_list market k c.pools-valid.ensures.valid lt)

pub push_list-requires-clause-few_applicants : goal.push_list-requires-clause-few_applicants
push_list-requires-clause-few_applicants c =
    omega (arith, c.loop-number-test.true, c.applicants-number-end.ensures.few, c.loop-number.invariant.4)

pub push_list-requires-clause-few : goal.push_list-requires-clause-few
push_list-requires-clause-few c =
    let market = c.args.instance.now in
    let k = c.loop-number.number in
    let lt : k < length market.lists = omega (arith, c.loop-number-test.true, c.applicants-number-end.ensures.count) in
    let list : c.in_ok-list.list.items ≡ list_of market k = c.in_ok-list.ensures.items ∙ c.list.ensures.value in
    rw (list, c.loop-number.invariant.5) (sizes_low market k c.pools-valid.ensures.valid lt)

pub loop-number-preserved : goal.loop-number-preserved
loop-number-preserved c =
    let market = c.args.instance.now in
    let k = c.loop-number.number in
    let lt : k < length market.lists = omega (arith, c.loop-number-test.true, c.applicants-number-end.ensures.count) in
    let list : c.in_ok-list.list.items ≡ list_of market k = c.in_ok-list.ensures.items ∙ c.list.ensures.value in
    let inv = c.loop-number.invariant in
    let ok = c.in_ok-push_list.ensures in (
      ok.lists ∙ rw (inv.0, list) (lists_more market.lists k lt),
      ok.present ∙ rw inv.1 (replicate_more k true),
      ok.trees ∙ inv.2,
      ok.roll,
      ok.applicants ∙ ap (λ n. n + 1) inv.4,
      ok.applications ∙ rw (inv.5, list) (sizes_more market.lists k lt),
    )
