use Rattle.std.proofs.Common.{◌≡◌, ◌<◌, ◌≤◌, ◌∙◌, ℕ, List, [], length, map, get_or, sym, ap, subst, arith}
use Rattle.std.specs.List.{concat}
use Rattle.std.specs.Io.KnownBytes.{Appends}
use Rattle.std.proofs.KnownBytes.{Appends-trans}
use Rattle.std.proofs.lemmas.List.{length-map, get_or-map, take_all}
use Rattle.std.proofs.lemmas.Result.{err_from_is_err_and}
use Rattle.sl_codes.specs.declared.field_text.Field.{Field}
use Rattle.sl_io.specs.Sink.{AppendsPart}
use Rattle.sl_run.proofs.Lines.{concat_more, line_of_fields, lines_are_text, part_of_line}
use Rattle.sl_run.proofs.demo.put_records.Goals as goal

-- the record at hand is that of the list
line_at : (records : List (List Field)) (k : ℕ) → k < length records → line_of_fields (get_or records k []) ≡ get_or (map line_of_fields records) k []
line_at records k lt = sym (get_or-map line_of_fields records k [] [] lt)

pub returns-in_err-put_record-clause-part : goal.returns-in_err-put_record-clause-part
returns-in_err-put_record-clause-part g c =
    let records = c.args.records.now in
    let lines = map line_of_fields records in
    let k = c.loop-record.record-index in
    let before = (g.O.Sink.output c.args.out.now).taken in
    let mid = (g.O.Sink.output c.loop-record.out).taken in
    let after = (g.O.Sink.output c.put_record.new.out).taken in
    let within : k < length lines = rw (length-map records line_of_fields) c.loop-record-test.true in
    let part = subst (AppendsPart mid after) (line_at records k c.loop-record-test.true) c.in_err-put_record.ensures.part in
    let error = err_from_is_err_and c.from_residual.result c.from_residual.ensures.1 in
    rw error.1 (subst (AppendsPart before after) (lines_are_text records) (part_of_line before mid after lines k within c.loop-record.invariant.taken part))

pub returns-in_err-put_record-clause-cause : goal.returns-in_err-put_record-clause-cause
returns-in_err-put_record-clause-cause g c =
    let error = err_from_is_err_and c.from_residual.result c.from_residual.ensures.1 in
    let later = c.loop-record.invariant.never_falls in
    let cause = c.in_err-put_record.ensures.cause in
    rw (error.1, error.2) (λ fault. let rose = cause fault in omega (arith, later, rose))

pub loop-record-preserved : goal.loop-record-preserved
loop-record-preserved g c =
    let records = c.args.records.now in
    let lines = map line_of_fields records in
    let k = c.loop-record.record-index in
    let before = (g.O.Sink.output c.args.out.now).taken in
    let mid = (g.O.Sink.output c.loop-record.out).taken in
    let after = (g.O.Sink.output c.put_record.new.out).taken in
    let within : k < length lines = rw (length-map records line_of_fields) c.loop-record-test.true in
    let whole = subst (Appends mid after) (line_at records k c.loop-record-test.true) c.in_ok-put_record.ensures.text in
    let low = c.loop-record.invariant.never_falls in
    let later = c.put_record.ensures.later in
    record {
      never_falls = omega (arith, low, later);
      taken = subst (Appends before after) (concat_more lines k within) (Appends-trans before mid after _ _ c.loop-record.invariant.taken whole);
    }

pub returns-clause-text : goal.returns-clause-text
returns-clause-text g c =
    let records = c.args.records.now in
    let lines = map line_of_fields records in
    let k = c.loop-record.record-index in
    let all : length lines ≤ k = rw (length-map records line_of_fields) c.loop-record-test.false in
    let before = (g.O.Sink.output c.args.out.now).taken in
    let now = (g.O.Sink.output c.loop-record.out).taken in
    subst (Appends before now) (ap concat (take_all k lines all) ∙ lines_are_text records) c.loop-record.invariant.taken
