use Rattle.std.proofs.Common.{◌<◌, arith, length, get_or, rules}
use Rattle.std.proofs.lemmas.Result.{err_from_is_err_and}
use Rattle.sl_types.specs.declared.kinds.Entry.{Entry}
use Rattle.sl_codes.proofs.Printing.{keeps_none, keeps_on, prints_nothing, prints_more, breaks_more}
use Rattle.sl_amend.specs.Tables.{choice_record, own_records}
use Rattle.sl_amend.proofs.TableRows.{own_length, own_row}
use Rattle.sl_amend.proofs.table_records.print_choices.Goals as goal

abbrev none : Entry
none = record { place = 0; prog = record { 0 = 0 }; score = 0 }

pub loop-choice-init : goal.loop-choice-init
loop-choice-init g c = (keeps_none g.O.Sink.output c.args.printer.now, prints_nothing g.O.Sink.output c.args.printer.now)

pub returns-in_err-print_choice-clause-broken : goal.returns-in_err-print_choice-clause-broken
returns-in_err-print_choice-clause-broken g c =
    let progs = c.args.progs.now in
    let code = c.args.code.now in
    let choices = c.args.choices.now in
    let k = c.loop-choice.choice-index in
    let lt : k < length choices = search rules in
    let error = err_from_is_err_and c.from_residual.result c.from_residual.ensures.1 in
    rw (error.1, error.2) (breaks_more g.O.Sink.output c.args.printer.now c.loop-choice.printer c.print_choice.new.printer (own_records progs code choices) k (choice_record progs code (get_or choices k none)) c.in_err-print_choice.field-0.0
    (omega (arith, lt, own_length progs code choices)) (own_row progs code choices k none lt) c.loop-choice.invariant.0 c.loop-choice.invariant.1 c.in_err-print_choice.ensures.broken)

pub loop-choice-preserved : goal.loop-choice-preserved
loop-choice-preserved g c =
    let progs = c.args.progs.now in
    let code = c.args.code.now in
    let choices = c.args.choices.now in
    let k = c.loop-choice.choice-index in
    let lt : k < length choices = search rules in (
      keeps_on g.O.Sink.output c.args.printer.now c.loop-choice.printer c.print_choice.new.printer c.loop-choice.invariant.0 c.print_choice.ensures.keeps,
      prints_more g.O.Sink.output c.args.printer.now c.loop-choice.printer c.print_choice.new.printer (own_records progs code choices) k (choice_record progs code (get_or choices k none))
          (omega (arith, lt, own_length progs code choices)) (own_row progs code choices k none lt) c.loop-choice.invariant.1 c.in_ok-print_choice.ensures.text,
    )
