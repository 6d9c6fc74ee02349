use Rattle.std.proofs.Common.{◌≡◌, arith, ap, get_or}
use Rattle.std.proofs.lemmas.List.{get_or_read, length-set}
use Rattle.sl_choices.specs.Marks.{no_marks}
use Rattle.sl_choices.proofs.Marking.{few_own, marked_row}
use Rattle.sl_choices.proofs.marked_rows.MarkedRows.add_row.Goals as goal

pub with-marks-requires : goal.with-marks-requires
with-marks-requires c =
    let self = c.args.self.now in
    let app = c.args.row.app.0 in
    let marks : c.index.result.now ≡ get_or self.marks.items app no_marks = get_or_read self.marks.items app _ c.requires.known c.index.ensures no_marks in
    let own = (c.requires.marked.marked app c.requires.known).rows in
    omega (arith, ap (λ m. m.rows) marks, own, few_own app self.chains.rows.items, c.requires.room)

pub returns-clause-marked : goal.returns-clause-marked
returns-clause-marked c =
    let self = c.args.self.now in
    let row = c.args.row in
    let more = c.with-marks.result in
    let marks : c.index.result.now ≡ get_or self.marks.items row.app.0 no_marks = get_or_read self.marks.items row.app.0 _ c.requires.known c.index.ensures no_marks in
    let added = c.in_ok-add_row.ensures in
    record {
      linked = added.linked;
      each = omega (arith, length-set self.marks.items row.app.0 more, c.requires.marked.each, added.last);
      marked = rw added.rows (marked_row self.chains.rows.items self.marks.items row more c.requires.marked.marked (rw (← marks) c.with-marks.ensures));
    }
