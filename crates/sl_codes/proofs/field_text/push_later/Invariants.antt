use Rattle.std.proofs.Common.{◌≡◌, ◌++◌, take}
use Rattle.std.specs.Prelude.{flat_map}
use Rattle.sl_codes.specs.RecordText.{later_text, record_of}
use Rattle.sl_codes.proofs.field_text.push_later.Given as goal

abbrev pub invariant-loop-field : goal.invariant-loop-field
invariant-loop-field l = l.text.items ≡ l.fn.text.items ++ flat_map later_text (record_of (take l.field-index l.fields))
