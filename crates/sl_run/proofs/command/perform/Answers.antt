use Rattle.std.proofs.Common.{◌≡◌, refl, sym, inl, inr}
use Rattle.std.proofs.lemmas.Result.{IfOk-weaker, IfErr-weaker}
use Rattle.sl_run.specs.Words.{texts_of, command_in}
use Rattle.sl_run.specs.Ending.{ending_in}
use Rattle.sl_run.specs.Run.{PerformsPart, BreaksOff}
use Rattle.sl_run.proofs.Ending.{low_status, no_words, receipt_of, floor_for, demo_files}
use Rattle.sl_run.proofs.Writing.{leaves_on}
use Rattle.sl_run.proofs.command.perform.Goals as goal

pub returns-in-Some-clause-carried_out : goal.returns-in-Some-clause-carried_out
returns-in-Some-clause-carried_out g c =
    IfOk-weaker c.carry_out.result _ _ (λ ended carried. (command_in c.in-Some.command, sym c.in-Some.ensures.command, carried)) c.carry_out.ensures.carried_out

pub returns-in-Some-clause-done : goal.returns-in-Some-clause-done
returns-in-Some-clause-done g c =
    IfOk-weaker c.carry_out.result _ _ (λ ended done. (command_in c.in-Some.command, sym c.in-Some.ensures.command, done)) c.carry_out.ensures.done

pub returns-in-Some-clause-low : goal.returns-in-Some-clause-low
returns-in-Some-clause-low g c =
    IfOk-weaker c.carry_out.result _ _
    (λ done can. low_status (texts_of c.args.words.now) (ending_in done) (command_in c.in-Some.command, sym c.in-Some.ensures.command, can)) c.carry_out.ensures.done

pub returns-in-Some-clause-left : goal.returns-in-Some-clause-left
returns-in-Some-clause-left g c =
    let shelf = g.S.Shelf.files c.args.shelf.now in
    let before = g.O.Sink.output c.args.out.now in
    let after = g.O.Sink.output c.carry_out.new.out in
    let command = command_in c.in-Some.command in
    IfErr-weaker c.carry_out.result _ _
    (λ failure left. leaves_on (c.carry_out.new.out ≡ c.args.out.now) (PerformsPart shelf command before after) before after (BreaksOff (texts_of c.args.words.now) shelf before after) failure
    (λ part. (command, sym c.in-Some.ensures.command, part)) left)
    c.carry_out.ensures.left

pub returns-in-Some-clause-cause : goal.returns-in-Some-clause-cause
returns-in-Some-clause-cause g c =
    IfErr-weaker c.carry_out.result _ _ (λ failure cause. inr (command_in c.in-Some.command, sym c.in-Some.ensures.command, cause)) c.carry_out.ensures.cause

pub returns-in-Some-clause-receipt : goal.returns-in-Some-clause-receipt
returns-in-Some-clause-receipt g c =
    IfOk-weaker c.carry_out.result _ _
    (λ done answers. receipt_of (texts_of c.args.words.now) (command_in c.in-Some.command) (sym c.in-Some.ensures.command) done.status done.receipt answers) c.carry_out.ensures.receipt

pub returns-in-Some-clause-floor : goal.returns-in-Some-clause-floor
returns-in-Some-clause-floor g c =
    IfOk-weaker c.carry_out.result _ _
    (λ done floor. floor_for (texts_of c.args.words.now) (command_in c.in-Some.command) (sym c.in-Some.ensures.command) done.receipt floor) c.carry_out.ensures.floor

pub returns-in-Some-clause-fetchless : goal.returns-in-Some-clause-fetchless
returns-in-Some-clause-fetchless g c = λ demo.
    c.carry_out.ensures.unread (demo_files (texts_of c.args.words.now) (command_in c.in-Some.command) (sym c.in-Some.ensures.command) demo)

pub returns-in-Some-clause-unread : goal.returns-in-Some-clause-unread
returns-in-Some-clause-unread g c = λ failed. absurd (no_words (command_in c.in-Some.command) (g.S.Shelf.files c.args.shelf.now) (g.S.Shelf.files c.carry_out.new.shelf) c.carry_out.result c.carry_out.ensures.cause failed)

pub returns-in-None-clause-cause : goal.returns-in-None-clause-cause
returns-in-None-clause-cause g c = inl (refl, sym c.in-None.ensures.command)
