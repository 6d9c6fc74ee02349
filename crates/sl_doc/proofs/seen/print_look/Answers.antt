use Rattle.std.proofs.Common.{◌≤◌, ◌<◌, ◌+◌, take, drop, length, rules}
use Rattle.std.specs.Prelude.{flat_map}
use Rattle.std.proofs.lemmas.Result.{err_from_is_err_and}
use Rattle.sl_types.specs.Market.{pool_numbers}
use Rattle.sl_codes.proofs.Printing.{keeps_none, keeps_on, prints_nothing, prints_on, breaks_first, breaks_on}
use Rattle.sl_doc.specs.SeenText.{seen_line}
use Rattle.sl_doc.proofs.SeenLines.{lines_more, lines_rest, lines_all}
use Rattle.sl_doc.proofs.seen.print_look.Goals as goal

pub loop-number-init : goal.loop-number-init
loop-number-init g c = (keeps_none g.O.Sink.output c.args.printer.now, prints_nothing g.O.Sink.output c.args.printer.now)

pub returns-in_err-print_risen-clause-broken : goal.returns-in_err-print_risen-clause-broken
returns-in_err-print_risen-clause-broken g c =
    let n = c.args.named.now in
    let line = seen_line n c.args.look c.args.before.now c.args.now.now in
    let count = length n.market.pools in
    let numbers = pool_numbers n.market in
    let k = c.loop-number.number in
    let lt : k < count = search rules in
    let out = g.O.Sink.output in
    let error = err_from_is_err_and c.from_residual.result c.from_residual.ensures.1 in
    let more =
    breaks_on out c.args.printer.now c.loop-number.printer c.print_risen.new.printer (flat_map line (take k numbers)) (line k) (flat_map line (take (k + 1) numbers))
    c.in_err-print_risen.field-0.0 c.loop-number.invariant.0 c.loop-number.invariant.1 c.in_err-print_risen.ensures.broken (lines_more line count k lt) in
    rw (error.1, error.2)
    (breaks_first out c.args.printer.now c.print_risen.new.printer (flat_map line (take (k + 1) numbers)) (flat_map line (drop (k + 1) numbers)) (flat_map line numbers)
    c.in_err-print_risen.field-0.0 more (lines_rest line count (k + 1)))

pub loop-number-preserved : goal.loop-number-preserved
loop-number-preserved g c =
    let n = c.args.named.now in
    let line = seen_line n c.args.look c.args.before.now c.args.now.now in
    let count = length n.market.pools in
    let numbers = pool_numbers n.market in
    let k = c.loop-number.number in
    let lt : k < count = search rules in
    let out = g.O.Sink.output in (
      keeps_on out c.args.printer.now c.loop-number.printer c.print_risen.new.printer c.loop-number.invariant.0 c.print_risen.ensures.keeps,
      prints_on out c.args.printer.now c.loop-number.printer c.print_risen.new.printer (flat_map line (take k numbers)) (line k) (flat_map line (take (k + 1) numbers))
          c.loop-number.invariant.1 c.in_ok-print_risen.ensures.text (lines_more line count k lt),
    )

pub returns-clause-text : goal.returns-clause-text
returns-clause-text g c =
    let n = c.args.named.now in
    let line = seen_line n c.args.look c.args.before.now c.args.now.now in
    let k = c.loop-number.number in
    let past : length n.market.pools ≤ k = search rules in
    rw (lines_all line (length n.market.pools) k past) at c.loop-number.invariant.1
