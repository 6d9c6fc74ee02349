use Rattle.std.proofs.Common.{◌≡◌, [], ap, refl, subst, Err, Some}
use Rattle.std.specs.Prelude.{flat_map}
use Rattle.std.proofs.lemmas.List.Elements.{All-nil}
use Rattle.sl_types.specs.Market.{Market}
use Rattle.sl_io.specs.Sink.{Takes, TakesPart}
use Rattle.sl_check.specs.declared.verdict.Verdict.TheVariants.{Yes}
use Rattle.sl_codes.specs.RecordText.{text_of_record}
use Rattle.sl_instance.specs.NamedMarket.{NamedMarket}
use Rattle.sl_run.specs.Words.{demo, no_inputs}
use Rattle.sl_run.specs.Accepted.{HoldsFor}
use Rattle.sl_run.specs.Run.{PerformsPart}
use Rattle.sl_run.specs.Summary.{summary_text}
use Rattle.sl_run.proofs.Accepting.{nothing_read}
use Rattle.sl_run.proofs.Writing.{write_cause, write_leaves}
use Rattle.sl_run.proofs.demo.demo_to.Goals as goal

-- an instance without codes
abbrev unnamed : Market → NamedMarket
unnamed market = record { market = market; pool_codes = []; prog_codes = []; app_codes = [] }

pub returns-in-Ok-clause-carried_out : goal.returns-in-Ok-clause-carried_out
returns-in-Ok-clause-carried_out g c = λ files told.
    let market = c.in_ok-instance.instance in
    let doc = c.in_ok-doc.doc in
    record {
      n = unnamed market;
      held = All-nil (HoldsFor files no_inputs.rule (unnamed market));
      verdict = Yes;
      text = summary_text market doc.limits;
      comes = (doc, record { market = c.in_ok-instance.ensures; result = c.in_ok-doc.ensures.result }, c.in_ok-doc.ensures.receipt, refl);
      put = subst (Takes (g.O.Sink.output c.args.out.now) (g.O.Sink.output c.put_records.new.out)) (ap (flat_map text_of_record) c.summary_records.ensures) c.in-Ok.ensures.text;
      ends = refl;
    }

pub returns-in-Ok-clause-floor : goal.returns-in-Ok-clause-floor
returns-in-Ok-clause-floor g c = record { kept = λ anew. c.in_ok-doc.ensures.receipt.floor.kept_is; whole = c.in_ok-doc.ensures.receipt.whole }

pub returns-clause-left : goal.returns-clause-left
returns-clause-left g c = λ files.
    let market = c.in_ok-instance.instance in
    let doc = c.in_ok-doc.doc in
    let before = g.O.Sink.output c.args.out.now in
    let after = g.O.Sink.output c.put_records.new.out in
    rw c.from.ensures
    (write_leaves (c.put_records.new.out ≡ c.args.out.now) (PerformsPart files (demo c.args.applicants c.args.workers) before after) before after c.in-Err.error
    (λ fault. c.in-Err.ensures.cause (ap Err fault))
    (λ told. (
      Some c.in_ok-doc.receipt,
      record {
        n = unnamed market;
        held = All-nil (HoldsFor files no_inputs.rule (unnamed market));
        verdict = Yes;
        text = summary_text market doc.limits;
        comes = (doc, record { market = c.in_ok-instance.ensures; result = c.in_ok-doc.ensures.result }, c.in_ok-doc.ensures.receipt, refl);
        put = subst (TakesPart before after) (ap (flat_map text_of_record) c.summary_records.ensures) c.in-Err.ensures.part;
        ends = refl;
      },
    )))

pub returns-clause-cause : goal.returns-clause-cause
returns-clause-cause g c = λ before after. rw c.from.ensures
    (write_cause no_inputs before after nothing_read c.in-Err.error (λ told. All-nil (HoldsFor before no_inputs.rule nothing_read)))
