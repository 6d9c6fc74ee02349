-- The fields of a row that are lent.
use Rattle.std.specs.Prelude.{[], ◌∷◌}
use Rattle.sl_codes.specs.Records.{Record}
use Rattle.sl_amend.specs.declared.parts.Parts.{Parts}

-- the record that they make
abbrev pub record_of : Parts → Record
record_of parts = parts.kind.now ∷ parts.subject.now ∷ parts.place.now ∷ parts.programme.now ∷ parts.number.now ∷ []
