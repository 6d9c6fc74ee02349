use Rattle.std.proofs.Common.{ℕ, ◌≡◌, ◌-◌, ◌<◌, ◌∙◌, [], not, ◌&&◌, length, map, ap, arith, replicate, nat_eq}
use Rattle.std.specs.List.{list_any}
use Rattle.sl_types.specs.declared.kinds.AppId.{AppId}
use Rattle.sl_contend.specs.Contention.{contends, contenders_of, is_lead}
use Rattle.sl_contend.specs.Contention.{number_of_pool}
use Rattle.sl_contend.proofs.Ranged.{holds_range}
use Rattle.sl_contend.proofs.Growing.{rows_from, none_from, more_at}
use Rattle.sl_contend.proofs.Tables.{is_fed, row_at, below, no_app, contenders_lead}
use Rattle.sl_contend.proofs.contention.fed_among.Goals as goal

pub loop-number-init : goal.loop-number-init
loop-number-init c =
    let market = c.args.instance.now in
    let none : 0 ≡ c.args.first - c.args.first = omega arith in
    record {
      after = omega arith;
      each = c.in_ok-rows.ensures.each ∙ c.pools-count.ensures.count;
      rows = c.in_ok-rows.ensures.rows ∙ (ap (λ (n : ℕ). replicate n []) c.pools-count.ensures.count ∙ (none_from (is_fed market) (length market.pools) c.args.first ∙ ap (rows_from (is_fed market) (length market.pools) c.args.first) none));
    }

pub enter_feeders-requires-clause-within : goal.enter_feeders-requires-clause-within
enter_feeders-requires-clause-within c =
    let market = c.args.instance.now in
    let number = λ (a : AppId). a.0 in
    let within : c.loop-number.number < length market.pools = omega (arith, c.loop-number-test.true, c.requires.within) in
    let row : map number c.row.result.now ≡ contenders_of market c.loop-number.number =
    ap (map number) c.row.ensures ∙ row_at number c.args.of.now.items.items c.args.of.now.starts.items market (contenders_of market) c.requires.of.each c.loop-number.number within in
    below number no_app c.row.result.now (λ a. contends market a c.loop-number.number) (length market.lists) row

pub loop-number-preserved : goal.loop-number-preserved
loop-number-preserved c =
    let market = c.args.instance.now in
    let P : ℕ = c.loop-number.number in
    let number = λ (a : AppId). a.0 in
    let apps = c.row.result.now in
    let within : P < length market.pools = omega (arith, c.loop-number-test.true, c.requires.within) in
    let row : map number apps ≡ contenders_of market P =
    ap (map number) c.row.ensures ∙ row_at number c.args.of.now.items.items c.args.of.now.starts.items market (contenders_of market) c.requires.of.each c.loop-number.number within in
    let i = c.loop-number.invariant in
    record {
      after = omega (arith, i.after);
      each = c.in_ok-enter_feeders.ensures.each ∙ i.each;
      rows = more_at (is_fed market) (λ (Q : ℕ). nat_eq Q P) (λ Q. list_any (is_lead market P Q) apps) (length market.pools) c.args.first P _ _ i.after i.rows c.in_ok-enter_feeders.ensures.rows
          (λ Q h. ap (λ b. not (nat_eq Q P) && b) (contenders_lead market Q P apps row));
    }

pub finish-requires : goal.finish-requires
finish-requires c = let e = c.loop-number.invariant.each in let few = c.pools-count.ensures.few in let same = c.pools-count.ensures.count in omega (arith, e, few, same)

pub returns : goal.returns
returns c =
    let market = c.args.instance.now in
    let i = c.loop-number.invariant in
    let all : c.loop-number.number - c.args.first ≡ c.args.end - c.args.first = omega (arith, c.loop-number.auto.number-end, c.loop-number-test.false, c.requires.order) in
    holds_range number_of_pool (is_fed market) c.finish.result c.loop-number.rows (length market.pools) c.args.first c.args.end i.each c.finish.ensures.cut c.finish.ensures.rows
    (i.rows ∙ ap (rows_from (is_fed market) (length market.pools) c.args.first) all)
