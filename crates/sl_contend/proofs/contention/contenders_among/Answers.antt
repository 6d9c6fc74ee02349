use Rattle.std.proofs.Common.{ℕ, ◌≡◌, ◌-◌, ◌∙◌, [], length, ap, arith, replicate, false}
use Rattle.std.specs.List.{list_any}
use Rattle.sl_laws.specs.Stable.{is_choice_in}
use Rattle.sl_contend.specs.Contention.{contends}
use Rattle.sl_contend.specs.Contention.{number_of_app}
use Rattle.sl_contend.proofs.Ranged.{holds_range}
use Rattle.sl_contend.proofs.Growing.{rows_from, none_from, more_at}
use Rattle.sl_contend.proofs.contention.contenders_among.Goals as goal

pub loop-number-init : goal.loop-number-init
loop-number-init c =
    let market = c.args.instance.now in
    let none : 0 ≡ c.args.first - c.args.first = omega arith in
    record {
      after = omega arith;
      each = c.in_ok-rows.ensures.each ∙ c.pools.ensures.count;
      rows = c.in_ok-rows.ensures.rows ∙ (ap (λ (n : ℕ). replicate n []) c.pools.ensures.count ∙ (none_from (contends market) (length market.pools) c.args.first ∙ ap (rows_from (contends market) (length market.pools) c.args.first) none));
    }

pub loop-number-preserved : goal.loop-number-preserved
loop-number-preserved c =
    let market = c.args.instance.now in
    let es = c.list.result.now in
    let i = c.loop-number.invariant in
    record {
      after = omega (arith, i.after);
      each = c.in_ok-enter_choices.ensures.each ∙ i.each;
      rows = more_at (contends market) (λ Q. false) (λ Q. list_any (is_choice_in market Q) es) (length market.pools) c.args.first c.loop-number.number _ _ i.after i.rows c.in_ok-enter_choices.ensures.rows
          (λ Q h. ap (list_any (is_choice_in market Q)) c.list.ensures.value);
    }

pub finish-requires : goal.finish-requires
finish-requires c = let e = c.loop-number.invariant.each in let few = c.pools.ensures.few in let same = c.pools.ensures.count in omega (arith, e, few, same)

pub returns : goal.returns
returns c =
    let market = c.args.instance.now in
    let i = c.loop-number.invariant in
    let all : c.loop-number.number - c.args.first ≡ c.args.end - c.args.first = omega (arith, c.loop-number.auto.number-end, c.loop-number-test.false, c.requires.order) in
    holds_range number_of_app (contends market) c.finish.result c.loop-number.rows (length market.pools) c.args.first c.args.end i.each c.finish.ensures.cut c.finish.ensures.rows
    (i.rows ∙ ap (rows_from (contends market) (length market.pools) c.args.first) all)
