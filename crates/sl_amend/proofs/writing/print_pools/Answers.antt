use Rattle.std.proofs.Common.{◌≤◌, ◌<◌, arith, length, rules, get_or, []}
use Rattle.std.proofs.lemmas.Result.{err_from_is_err_and}
use Rattle.sl_codes.proofs.Printing.{keeps_none, keeps_on, prints_nothing, prints_more, breaks_more, prints_all}
use Rattle.sl_types.specs.Market.{pool_at}
use Rattle.sl_amend.specs.Tables.{pool_records, pool_record}
use Rattle.sl_amend.proofs.TableRows.{pools_length, pool_row}
use Rattle.sl_amend.proofs.writing.print_pools.Goals as goal

pub loop-number-init : goal.loop-number-init
loop-number-init g c = (keeps_none g.O.Sink.output c.args.printer.now, prints_nothing g.O.Sink.output c.args.printer.now)

pub returns-in_err-print_pool-clause-broken : goal.returns-in_err-print_pool-clause-broken
returns-in_err-print_pool-clause-broken g c =
    let n = c.args.named.now in
    let each = c.instance.ensures.named.each_pool in
    let k = c.loop-number.number in
    let lt : k < length n.market.pools = search rules in
    let error = err_from_is_err_and c.from_residual.result c.from_residual.ensures.1 in
    let row = pool_record n.pool_codes (get_or n.pool_codes k []) (pool_at n.market k) in
    rw (error.1, error.2) (breaks_more g.O.Sink.output c.args.printer.now c.loop-number.printer c.print_pool.new.printer (pool_records n) k row c.in_err-print_pool.field-0.0
    (omega (arith, lt, pools_length n each)) (pool_row n k each lt) c.loop-number.invariant.0 c.loop-number.invariant.1 c.in_err-print_pool.ensures.broken)

pub loop-number-preserved : goal.loop-number-preserved
loop-number-preserved g c =
    let n = c.args.named.now in
    let each = c.instance.ensures.named.each_pool in
    let k = c.loop-number.number in
    let lt : k < length n.market.pools = search rules in
    let row = pool_record n.pool_codes (get_or n.pool_codes k []) (pool_at n.market k) in (
      keeps_on g.O.Sink.output c.args.printer.now c.loop-number.printer c.print_pool.new.printer c.loop-number.invariant.0 c.print_pool.ensures.keeps,
      prints_more g.O.Sink.output c.args.printer.now c.loop-number.printer c.print_pool.new.printer (pool_records n) k row
          (omega (arith, lt, pools_length n each)) (pool_row n k each lt) c.loop-number.invariant.1 c.in_ok-print_pool.ensures.text,
    )

pub returns-clause-text : goal.returns-clause-text
returns-clause-text g c =
    let n = c.args.named.now in
    let each = c.instance.ensures.named.each_pool in
    let k = c.loop-number.number in
    let past : length n.market.pools ≤ k = search rules in
    prints_all g.O.Sink.output c.args.printer.now c.loop-number.printer (pool_records n) k (omega (arith, past, pools_length n each)) c.loop-number.invariant.1
