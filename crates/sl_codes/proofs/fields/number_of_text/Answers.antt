use Rattle.std.proofs.Common.{◌∙◌, sym}
use Rattle.sl_codes.proofs.FieldLemmas.{number_parsed}
use Rattle.sl_codes.proofs.fields.number_of_text.Goals as goal

pub returns : goal.returns
returns c = c.ok.ensures.value ∙ number_parsed c.args.text.now c.parse.result c.parse.ensures.value.0 (sym c.is_number.ensures ∙ c.if-not-is_number.false)
