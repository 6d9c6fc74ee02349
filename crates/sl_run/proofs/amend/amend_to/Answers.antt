use Rattle.std.proofs.Common.{◌≡◌}
use Rattle.std.proofs.lemmas.Result.{IfOk-weaker, IfErr-weaker}
use Rattle.sl_io.specs.Sink.{Takes}
use Rattle.sl_run.specs.Words.{tables_in, round_inputs, letter_rule}
use Rattle.sl_run.specs.Run.{ConcludesPart}
use Rattle.sl_run.proofs.Amending.{amend_floor, amend_part, amend_performs, concluded_receipt, output_cause}
use Rattle.sl_run.proofs.Writing.{leaves_on}
use Rattle.sl_run.proofs.amend.amend_to.Goals as goal

pub returns-clause-carried_out : goal.returns-clause-carried_out
returns-clause-carried_out g c =
    let told = c.in_ok-named.ensures in
    IfOk-weaker c.conclude_round.result _ _
    (λ done concluded. amend_performs (g.S.Shelf.files c.args.shelf.now) c.args.workers (tables_in c.args.tables) c.args.document.now c.args.amendments.now c.in_ok-named.field-0.named c.in_ok-named.field-0.amendments.rows c.in_ok-named.field-0.doc
    (g.O.Sink.output c.args.out.now) (g.O.Sink.output c.conclude_round.new.out) told.held told.valid told.named told.document told.rows done concluded)
    c.conclude_round.ensures.concluded

pub returns-clause-done : goal.returns-clause-done
returns-clause-done g c = IfOk-weaker c.conclude_round.result _ _ (λ done h. (c.in_ok-named.field-0.named, h.verdict, h.ends)) c.conclude_round.ensures.concluded

pub returns-clause-receipt : goal.returns-clause-receipt
returns-clause-receipt g c =
    IfOk-weaker c.conclude_round.result _ _
    (λ done h. concluded_receipt (letter_rule c.args.tables.letter) c.in_ok-named.field-0.named c.in_ok-named.field-0.amendments.rows c.in_ok-named.field-0.doc (Takes (g.O.Sink.output c.args.out.now) (g.O.Sink.output c.conclude_round.new.out)) done
    c.args.workers (tables_in c.args.tables) c.args.document.now c.args.amendments.now h)
    c.conclude_round.ensures.concluded

pub returns-clause-floor : goal.returns-clause-floor
returns-clause-floor g c =
    IfOk-weaker c.conclude_round.result _ _ (λ done whole. amend_floor c.args.workers (tables_in c.args.tables) c.args.document.now c.args.amendments.now done.receipt whole) c.conclude_round.ensures.whole

pub returns-clause-left : goal.returns-clause-left
returns-clause-left g c =
    let told = c.in_ok-named.ensures in
    let shelf = g.S.Shelf.files c.args.shelf.now in
    let before = g.O.Sink.output c.args.out.now in
    let after = g.O.Sink.output c.conclude_round.new.out in
    let t = tables_in c.args.tables in
    IfErr-weaker c.conclude_round.result _ _
    (λ failure left. leaves_on (c.conclude_round.new.out ≡ c.args.out.now) (ConcludesPart (letter_rule c.args.tables.letter) c.in_ok-named.field-0.named c.in_ok-named.field-0.amendments.rows c.in_ok-named.field-0.doc before after) before after
    _ failure
    (amend_part shelf c.args.workers t c.args.document.now c.args.amendments.now c.in_ok-named.field-0.named c.in_ok-named.field-0.amendments.rows c.in_ok-named.field-0.doc before after told.held told.valid told.named told.document told.rows) left)
    c.conclude_round.ensures.left

pub returns-clause-cause : goal.returns-clause-cause
returns-clause-cause g c =
    IfErr-weaker c.conclude_round.result _ _
    (output_cause (round_inputs (tables_in c.args.tables) c.args.document.now c.args.amendments.now) (g.S.Shelf.files c.args.shelf.now) (g.S.Shelf.files c.read_round.new.shelf) c.in_ok-named.field-0.named c.in_ok-named.ensures.held)
    c.conclude_round.ensures.late
