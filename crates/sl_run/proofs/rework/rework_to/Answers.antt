use Rattle.std.proofs.Common.{◌≡◌, Err, sym, ap}
use Rattle.sl_doc.specs.ResultText.{result_text}
use Rattle.sl_run.specs.Words.{letter_rule}
use Rattle.sl_run.specs.Run.{ReworksPart}
use Rattle.sl_run.proofs.Amending.{result_from}
use Rattle.sl_run.proofs.Writing.{write_leaves, write_late}
use Rattle.sl_run.proofs.rework.rework_to.Goals as goal

pub returns-in-Ok-clause-reworks : goal.returns-in-Ok-clause-reworks
returns-in-Ok-clause-reworks g c =
    let reworked = c.in_ok-reworked.reworked in
    let told = c.in_ok-reworked.ensures in
    let rule = letter_rule c.args.letter in (
      result_text reworked.named rule reworked.doc,
      result_from rule c.args.named.now reworked.named c.args.amendments.rows c.args.raises.now reworked.doc reworked.receipt
          told.named told.valid told.coded told.result told.begins told.receipt,
      rw (sym c.rule.ensures.rule) c.in-Ok.ensures.text,
    )

pub returns-in-Err-clause-left : goal.returns-in-Err-clause-left
returns-in-Err-clause-left g c =
    let before = g.O.Sink.output c.args.out.now in
    let after = g.O.Sink.output c.doc_text-written.new.out in
    let reworked = c.in_ok-reworked.reworked in
    let told = c.in_ok-reworked.ensures in
    let rule = letter_rule c.args.letter in
    rw c.from.ensures
    (write_leaves (c.doc_text-written.new.out ≡ c.args.out.now) (ReworksPart rule c.args.named.now c.args.amendments.rows c.args.raises.now before after) before after c.in-Err.error
    (λ fault. c.in-Err.ensures.cause (ap Err fault)) (
      reworked.receipt,
      (
        result_text reworked.named rule reworked.doc,
        result_from rule c.args.named.now reworked.named c.args.amendments.rows c.args.raises.now reworked.doc reworked.receipt
            told.named told.valid told.coded told.result told.begins told.receipt,
        rw (sym c.rule.ensures.rule) c.in-Err.ensures.part,
      ),
    ))

pub returns-in-Err-clause-late : goal.returns-in-Err-clause-late
returns-in-Err-clause-late g c = rw c.from.ensures (write_late c.in-Err.error)
