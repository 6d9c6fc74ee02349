use Rattle.std.proofs.Common.{ℕ, ◌≡◌, ◌-◌, ◌<◌, ◌∙◌, [], length, map, All, subst, sym, ap, arith, replicate, nat_eq}
use Rattle.std.specs.List.{list_any}
use Rattle.sl_types.specs.declared.kinds.PoolId.{PoolId}
use Rattle.sl_laws.specs.Stable.{feeds}
use Rattle.sl_contend.specs.Contention.{fed_by, number_of_pool}
use Rattle.sl_contend.proofs.Ranged.{holds_range}
use Rattle.sl_contend.proofs.Growing.{rows_from, none_from, more_at}
use Rattle.sl_contend.proofs.Tables.{row_at, below, no_pool_id, stands_in}
use Rattle.sl_contend.proofs.contention.feeds_among.Goals as goal

pub loop-number-init : goal.loop-number-init
loop-number-init c =
    let market = c.args.instance.now in
    let none : 0 ≡ c.args.first - c.args.first = omega arith in
    record {
      after = omega arith;
      each = c.in_ok-rows.ensures.each ∙ c.pools-count.ensures.count;
      rows = c.in_ok-rows.ensures.rows ∙ (ap (λ (n : ℕ). replicate n []) c.pools-count.ensures.count ∙ (none_from (feeds market) (length market.pools) c.args.first ∙ ap (rows_from (feeds market) (length market.pools) c.args.first) none));
    }

pub enter_each-requires : goal.enter_each-requires
enter_each-requires c =
    let market = c.args.instance.now in
    let number = λ (p : PoolId). p.0 in
    let within : c.loop-number.number < length market.pools = omega (arith, c.loop-number-test.true, c.requires.within) in
    let row : map number c.row.result.now ≡ fed_by market c.loop-number.number =
    ap (map number) c.row.ensures ∙ row_at number c.args.fed.now.items.items c.args.fed.now.starts.items market (fed_by market) c.requires.fed.each c.loop-number.number within in
    record { within = subst (λ (n : ℕ). All (λ (p : PoolId). p.0 < n) c.row.result.now) (sym c.loop-number.invariant.each) (below number no_pool_id c.row.result.now (feeds market c.loop-number.number) (length market.pools) row) }

pub loop-number-preserved : goal.loop-number-preserved
loop-number-preserved c =
    let market = c.args.instance.now in
    let Q : ℕ = c.loop-number.number in
    let number = λ (p : PoolId). p.0 in
    let pools = c.row.result.now in
    let within : Q < length market.pools = omega (arith, c.loop-number-test.true, c.requires.within) in
    let row : map number pools ≡ fed_by market Q =
    ap (map number) c.row.ensures ∙ row_at number c.args.fed.now.items.items c.args.fed.now.starts.items market (fed_by market) c.requires.fed.each c.loop-number.number within in
    let i = c.loop-number.invariant in
    record {
      after = omega (arith, i.after);
      each = c.in_ok-enter_each.ensures.each ∙ i.each;
      rows = more_at (feeds market) (λ (R : ℕ). nat_eq R Q) (λ R. list_any (λ (p : PoolId). nat_eq p.0 R) pools) (length market.pools) c.args.first Q _ _ i.after i.rows c.in_ok-enter_each.ensures.rows
          (λ R h. stands_in market Q R pools row h);
    }

pub finish-requires : goal.finish-requires
finish-requires c = let e = c.loop-number.invariant.each in let few = c.pools-count.ensures.few in let same = c.pools-count.ensures.count in omega (arith, e, few, same)

pub returns : goal.returns
returns c =
    let market = c.args.instance.now in
    let i = c.loop-number.invariant in
    let all : c.loop-number.number - c.args.first ≡ c.args.end - c.args.first = omega (arith, c.loop-number.auto.number-end, c.loop-number-test.false, c.requires.order) in
    holds_range number_of_pool (feeds market) c.finish.result c.loop-number.rows (length market.pools) c.args.first c.args.end i.each c.finish.ensures.cut c.finish.ensures.rows
    (i.rows ∙ ap (rows_from (feeds market) (length market.pools) c.args.first) all)
