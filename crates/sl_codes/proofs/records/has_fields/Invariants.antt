use Rattle.std.proofs.Common.{◌≡◌, length, map, drop}
use Rattle.csv.specs.Records.{fields_of}
use Rattle.sl_codes.specs.Records.{has_fields}
use Rattle.sl_codes.proofs.records.has_fields.Given as goal

abbrev pub invariant-loop-i : goal.invariant-loop-i
invariant-loop-i l = (length (fields_of l.row) ≡ length l.fields) × (has_fields (fields_of l.row) (map (λ s. s.now) l.fields) ≡ has_fields (drop l.i (fields_of l.row)) (map (λ s. s.now) (drop l.i l.fields)))
