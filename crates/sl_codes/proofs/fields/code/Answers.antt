use Rattle.std.proofs.Common.{refl}
use Rattle.sl_codes.proofs.FieldLemmas.{code_cause-text, code_cause-no_text}
use Rattle.sl_codes.proofs.fields.code.Goals as goal

pub returns-in_default-clause-cause : goal.returns-in_default-clause-cause
returns-in_default-clause-cause c = code_cause-no_text c.args.field.now c.in_default.ensures.cases.0

pub returns-then-not-has_code_form-clause-cause : goal.returns-then-not-has_code_form-clause-cause
returns-then-not-has_code_form-clause-cause c = rw (code_cause-text c.args.field.now c.in-Ok.ensures.cases.1, ← c.in-Ok.ensures.cases.0, ← c.has_code_form.ensures, c.if-not-has_code_form.true) refl

pub returns-clause-cause : goal.returns-clause-cause
returns-clause-cause c = rw (code_cause-text c.args.field.now c.in-Ok.ensures.cases.1, ← c.in-Ok.ensures.cases.0, ← c.has_code_form.ensures, c.if-not-has_code_form.false) refl
