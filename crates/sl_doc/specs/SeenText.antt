-- What is written of a look at the limits while workers raise them.
use Rattle.std.specs.Prelude.{ℕ, List, [], codes, flat_map, get_or, slice_index, nat_lt, if◌then◌else◌}
use Rattle.std.specs.Fmt.{decimal}
use Rattle.sl_types.specs.Market.{pool_numbers}
use Rattle.sl_codes.specs.Records.{Record}
use Rattle.sl_codes.specs.RecordText.{text_of_record}
use Rattle.sl_instance.specs.NamedMarket.{NamedMarket}
use Rattle.sl_doc.specs.ResultText.{four}

-- of a pool: the limit that the look saw
abbrev pub seen_record : NamedMarket → ℕ → List ℕ → ℕ → Record
seen_record n look now P =
    four (codes "seen") (decimal look) (get_or n.pool_codes P []) (decimal (slice_index now P))

-- its line where the limit is above what the look before saw, and else nothing
abbrev pub seen_line : NamedMarket → ℕ → List ℕ → List ℕ → ℕ → List ℕ
seen_line n look before now P =
    if nat_lt (slice_index before P) (slice_index now P) then text_of_record (seen_record n look now P) else []

-- the lines of all pools, in order
abbrev pub seen_lines : NamedMarket → ℕ → List ℕ → List ℕ → List ℕ
seen_lines n look before now = flat_map (seen_line n look before now) (pool_numbers n.market)
