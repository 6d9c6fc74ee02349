use Rattle.std.proofs.Common.{◌≤◌, ◌<◌, List, [], length, get_or, ℕ, arith, rules}
use Rattle.std.specs.Prelude.{zip}
use Rattle.std.proofs.lemmas.Result.{err_from_is_err_and}
use Rattle.std.proofs.lemmas.Slice.Zip.{length-zip}
use Rattle.sl_types.specs.declared.kinds.Entry.{Entry}
use Rattle.sl_types.specs.Market.{list_of}
use Rattle.sl_codes.specs.Records.{Record}
use Rattle.sl_codes.proofs.Printing.{keeps_none, keeps_on, prints_nothing}
use Rattle.sl_amend.specs.Tables.{own_records}
use Rattle.sl_amend.proofs.TableRows.{applicant_at, prints_group, breaks_group, prints_groups}
use Rattle.sl_amend.proofs.writing.print_applications.Goals as goal

pub loop-number-init : goal.loop-number-init
loop-number-init g c = (keeps_none g.O.Sink.output c.args.printer.now, prints_nothing g.O.Sink.output c.args.printer.now)

pub returns-in_err-print_applicant-clause-broken : goal.returns-in_err-print_applicant-clause-broken
returns-in_err-print_applicant-clause-broken g c =
    let n = c.args.named.now in
    let each = c.instance.ensures.named.each_applicant in
    let k = c.loop-number.number in
    let lt : k < length n.market.lists = search rules in
    let error = err_from_is_err_and c.from_residual.result c.from_residual.ensures.1 in
    let pairs = length-zip n.app_codes n.market.lists in
    let x : List ℕ × List Entry = (get_or n.app_codes k [], list_of n.market k) in
    let f : List ℕ × List Entry → List Record = λ a. own_records n.prog_codes a.0 a.1 in
    rw (error.1, error.2) (breaks_group g.O.Sink.output c.args.printer.now c.loop-number.printer c.print_applicant.new.printer f (zip n.app_codes n.market.lists) k x c.in_err-print_applicant.field-0.0
    (omega (arith, lt, pairs, each)) (applicant_at n.app_codes n.market.lists k (omega (arith, lt, each)) lt) c.loop-number.invariant.0 c.loop-number.invariant.1 c.in_err-print_applicant.ensures.broken)

pub loop-number-preserved : goal.loop-number-preserved
loop-number-preserved g c =
    let n = c.args.named.now in
    let each = c.instance.ensures.named.each_applicant in
    let k = c.loop-number.number in
    let lt : k < length n.market.lists = search rules in
    let pairs = length-zip n.app_codes n.market.lists in
    let x : List ℕ × List Entry = (get_or n.app_codes k [], list_of n.market k) in
    let f : List ℕ × List Entry → List Record = λ a. own_records n.prog_codes a.0 a.1 in (
      keeps_on g.O.Sink.output c.args.printer.now c.loop-number.printer c.print_applicant.new.printer c.loop-number.invariant.0 c.print_applicant.ensures.keeps,
      prints_group g.O.Sink.output c.args.printer.now c.loop-number.printer c.print_applicant.new.printer f (zip n.app_codes n.market.lists) k x
          (omega (arith, lt, pairs, each)) (applicant_at n.app_codes n.market.lists k (omega (arith, lt, each)) lt) c.loop-number.invariant.1 c.in_ok-print_applicant.ensures.text,
    )

pub returns-clause-text : goal.returns-clause-text
returns-clause-text g c =
    let n = c.args.named.now in
    let each = c.instance.ensures.named.each_applicant in
    let k = c.loop-number.number in
    let past : length n.market.lists ≤ k = search rules in
    let pairs = length-zip n.app_codes n.market.lists in
    let f : List ℕ × List Entry → List Record = λ a. own_records n.prog_codes a.0 a.1 in
    prints_groups g.O.Sink.output c.args.printer.now c.loop-number.printer f (zip n.app_codes n.market.lists) k (omega (arith, past, pairs, each)) c.loop-number.invariant.1
