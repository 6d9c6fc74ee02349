use Rattle.sl_codes.specs.Records.{rows_of}
use Rattle.sl_doc.proofs.Drafts.{draft_whole}
use Rattle.sl_doc.proofs.reading.read_doc.Goals as goal

pub returns-then-has_ended-clause-in_range : goal.returns-then-has_ended-clause-in_range
returns-then-has_ended-clause-in_range c =
    let made = c.in_ok-doc.field-0 in
    draft_whole c.args.named.now (rows_of c.args.bytes.now) made.doc made.rows made.has_ended c.in_ok-doc.ensures.draft c.if-has_ended.true
