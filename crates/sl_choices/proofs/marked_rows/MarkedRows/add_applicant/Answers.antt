use Rattle.std.proofs.Common.{◌≡◌, ◌++◌, ◌∷◌, [], arith, ap, length, length-append}
use Rattle.sl_choices.specs.Marks.{no_marks}
use Rattle.sl_choices.specs.Rows.{rows_of_app}
use Rattle.sl_choices.proofs.Links.{no_rows}
use Rattle.sl_choices.proofs.Marking.{marked_applicant}
use Rattle.sl_choices.proofs.marked_rows.MarkedRows.add_applicant.Goals as goal

pub returns-clause-marked : goal.returns-clause-marked
returns-clause-marked c =
    let self = c.args.self.now in
    let rows = self.chains.rows.items in
    let marks = self.marks.items in
    let h = c.requires in
    let none : rows_of_app (length marks) rows ≡ [] = no_rows (length marks) rows (λ k lt. omega (arith, h.linked.apps k lt, h.each)) in
    let added = c.in_ok-add_applicant.ensures in
    let more : c.push.new.self.items ≡ marks ++ no_marks ∷ [] = rw c.new.ensures at c.in_ok-push.ensures.items in
    record {
      linked = added.linked;
      each = omega (arith, ap length more, ap length added.last, h.each, length-append marks (no_marks ∷ []), length-append self.chains.last.items (0 ∷ []));
      marked = rw (more, added.rows) (marked_applicant rows marks none h.marked);
    }
