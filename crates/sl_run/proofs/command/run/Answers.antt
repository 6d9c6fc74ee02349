use Rattle.std.proofs.Common.{◌≡◌, ◌∙◌, true, sym, inl, inr}
use Rattle.std.specs.Prelude.{is_some}
use Rattle.sl_io.specs.Sink.{Takes}
use Rattle.sl_run.specs.Words.{texts_of}
use Rattle.sl_run.specs.Ending.{IsEnding, ending_in}
use Rattle.sl_run.specs.Run.{BreaksOff}
use Rattle.sl_run.proofs.Ending.{none_refused, refuses, completes, completed, ended, end_with, unproved_line_of, line_there, words_decide, demo_status, demo_fails}
use Rattle.sl_run.proofs.Writing.{left_with_5, left_with_6, left_with_less}
use Rattle.sl_run.proofs.command.run.Goals as goal

pub returns-in-Ok-clause-carried_out : goal.returns-in-Ok-clause-carried_out
returns-in-Ok-clause-carried_out g c = λ low.
    let (command, is, done) = c.in-Ok.ensures.carried_out in
    let put = Takes (g.O.Sink.output c.args.out.now) (g.O.Sink.output c.perform.new.out) in
    rw (c.conclude.ensures.status, c.conclude.ensures.receipt)
    (command, is, λ told. end_with (g.S.Shelf.files c.args.shelf.now) command put c.in-Ok.done (g.E.Sink.output c.args.err.now) (g.E.Sink.output c.conclude.new.err) (done told) c.conclude.ensures.ends)

pub returns-in-Ok-clause-ended : goal.returns-in-Ok-clause-ended
returns-in-Ok-clause-ended g c = rw c.conclude.ensures.status
    (ended (texts_of c.args.words.now) (g.S.Shelf.files c.args.shelf.now) (g.S.Shelf.files c.perform.new.shelf) c.in-Ok.done.status (ending_in c.in-Ok.done)
    (g.E.Sink.output c.args.err.now) (g.E.Sink.output c.conclude.new.err) c.in-Ok.ensures.done c.conclude.ensures.ends)

pub returns-in-Ok-clause-refused : goal.returns-in-Ok-clause-refused
returns-in-Ok-clause-refused g c = rw c.conclude.ensures.status
    (none_refused (texts_of c.args.words.now) (g.S.Shelf.files c.args.shelf.now) (g.S.Shelf.files c.perform.new.shelf) (g.O.Sink.output c.args.out.now) (g.O.Sink.output c.perform.new.out)
    (IsEnding c.in-Ok.done) c.in-Ok.done.receipt c.in-Ok.done.status c.in-Ok.ensures.carried_out)

pub returns-in-Ok-clause-completed : goal.returns-in-Ok-clause-completed
returns-in-Ok-clause-completed g c = rw c.conclude.ensures.status
    (completed (texts_of c.args.words.now) (g.S.Shelf.files c.args.shelf.now) (g.S.Shelf.files c.perform.new.shelf) (g.O.Sink.output c.args.out.now) (g.O.Sink.output c.perform.new.out)
    (ending_in c.in-Ok.done) c.in-Ok.ensures.done)

pub returns-in-Ok-clause-demo : goal.returns-in-Ok-clause-demo
returns-in-Ok-clause-demo g c = rw c.conclude.ensures.status (λ demo. inl (demo_status (texts_of c.args.words.now) (ending_in c.in-Ok.done) c.in-Ok.ensures.done demo))

pub returns-in-Ok-clause-unproved : goal.returns-in-Ok-clause-unproved
returns-in-Ok-clause-unproved g c = rw c.conclude.ensures.status (λ one amends.
    let some : is_some (ending_in c.in-Ok.done).line ≡ true = unproved_line_of (texts_of c.args.words.now) (ending_in c.in-Ok.done) c.in-Ok.ensures.done amends one in
    c.in-Ok.ensures.unproved (line_there c.in-Ok.done some))

pub returns-in-Err-clause-demo : goal.returns-in-Err-clause-demo
returns-in-Err-clause-demo g c = rw c.status.ensures (λ demo. inr
    (demo_fails (texts_of c.args.words.now) (g.S.Shelf.files c.args.shelf.now) (g.S.Shelf.files c.perform.new.shelf) c.in-Err.failure c.in-Err.ensures.cause demo))

pub returns-in-Err-clause-ended : goal.returns-in-Err-clause-ended
returns-in-Err-clause-ended g c = inr (c.in-Err.failure, c.in-Err.ensures.cause, (c.status.ensures, c.report.ensures))

pub returns-in-Err-clause-words : goal.returns-in-Err-clause-words
returns-in-Err-clause-words g c = rw c.status.ensures
    (words_decide (texts_of c.args.words.now) (g.S.Shelf.files c.args.shelf.now) (g.S.Shelf.files c.perform.new.shelf) c.in-Err.failure c.in-Err.ensures.cause)

pub returns-in-Err-clause-unwritable : goal.returns-in-Err-clause-unwritable
returns-in-Err-clause-unwritable g c = λ five.
    let before = g.O.Sink.output c.args.out.now in
    let after = g.O.Sink.output c.perform.new.out in
    (left_with_5 (c.perform.new.out ≡ c.args.out.now) (BreaksOff (texts_of c.args.words.now) (g.S.Shelf.files c.args.shelf.now) before after) before after
    c.in-Err.failure c.in-Err.ensures.left (sym c.status.ensures ∙ five)).0

pub returns-in-Err-clause-broken_off : goal.returns-in-Err-clause-broken_off
returns-in-Err-clause-broken_off g c = λ five.
    let before = g.O.Sink.output c.args.out.now in
    let after = g.O.Sink.output c.perform.new.out in
    (left_with_5 (c.perform.new.out ≡ c.args.out.now) (BreaksOff (texts_of c.args.words.now) (g.S.Shelf.files c.args.shelf.now) before after) before after
    c.in-Err.failure c.in-Err.ensures.left (sym c.status.ensures ∙ five)).1

pub returns-in-Err-clause-partly : goal.returns-in-Err-clause-partly
returns-in-Err-clause-partly g c = λ six.
    let before = g.O.Sink.output c.args.out.now in
    let after = g.O.Sink.output c.perform.new.out in
    left_with_6 (c.perform.new.out ≡ c.args.out.now) (BreaksOff (texts_of c.args.words.now) (g.S.Shelf.files c.args.shelf.now) before after) before after
    c.in-Err.failure c.in-Err.ensures.left (sym c.status.ensures ∙ six)

pub returns-in-Err-clause-nothing : goal.returns-in-Err-clause-nothing
returns-in-Err-clause-nothing g c = λ low.
    let before = g.O.Sink.output c.args.out.now in
    let after = g.O.Sink.output c.perform.new.out in
    left_with_less (c.perform.new.out ≡ c.args.out.now) (BreaksOff (texts_of c.args.words.now) (g.S.Shelf.files c.args.shelf.now) before after) before after
    c.in-Err.failure c.in-Err.ensures.left (rw (sym c.status.ensures) low)

pub returns-in-Err-clause-refused : goal.returns-in-Err-clause-refused
returns-in-Err-clause-refused g c = rw c.status.ensures
    (refuses (texts_of c.args.words.now) (g.S.Shelf.files c.args.shelf.now) (g.S.Shelf.files c.perform.new.shelf) c.in-Err.failure c.in-Err.ensures.cause)

pub returns-in-Err-clause-completed : goal.returns-in-Err-clause-completed
returns-in-Err-clause-completed g c = rw c.status.ensures
    (completes (texts_of c.args.words.now) (g.S.Shelf.files c.args.shelf.now) (g.S.Shelf.files c.perform.new.shelf) (g.O.Sink.output c.args.out.now) (g.O.Sink.output c.perform.new.out)
    c.in-Err.failure c.in-Err.ensures.cause (λ five. (left_with_5 (c.perform.new.out ≡ c.args.out.now)
    (BreaksOff (texts_of c.args.words.now) (g.S.Shelf.files c.args.shelf.now) (g.O.Sink.output c.args.out.now) (g.O.Sink.output c.perform.new.out))
    (g.O.Sink.output c.args.out.now) (g.O.Sink.output c.perform.new.out) c.in-Err.failure c.in-Err.ensures.left five).0))
