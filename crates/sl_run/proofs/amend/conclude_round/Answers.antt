use Rattle.std.proofs.Common.{refl, rules}
use Rattle.std.proofs.KnownBytes.{Appends-nil}
use Rattle.sl_io.specs.Sink.{Takes}
use Rattle.sl_run.specs.Words.{letter_rule}
use Rattle.sl_run.proofs.Amending.{unproved_concludes}
use Rattle.sl_run.proofs.amend.conclude_round.Goals as goal

pub returns-in-Ok-unproved : goal.returns-in-Ok-unproved
returns-in-Ok-unproved g c = record {
  concluded = unproved_concludes (letter_rule c.args.letter) c.args.named.now c.args.amendments.rows c.args.doc.now (Takes (g.O.Sink.output c.args.out.now) (g.O.Sink.output c.args.out.now)) c.in-Ok-unproved.done c.in-Ok.verdict (search rules) c.in-Ok.ensures.verdict c.in-Ok-unproved.ensures.line c.in-Ok-unproved.ensures.receipt (Appends-nil (g.O.Sink.output c.args.out.now).taken);
  whole = rw c.in-Ok-unproved.ensures.receipt tt;
  unproved = λ said. refl;
  left = tt;
  late = tt;
}
