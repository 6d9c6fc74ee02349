-- The text of looks at the limits, one after another.
use Rattle.std.specs.Prelude.{ℕ, ◌+◌, List, [], ◌∷◌, length, flat_map, replicate, slice_index_or}
use Rattle.std.specs.List.{range_with_len}
use Rattle.sl_instance.specs.NamedMarket.{NamedMarket}
use Rattle.sl_doc.specs.SeenText.{seen_lines}

-- what the look before look k, counted from 0, saw; before the first all limits are 0
abbrev pub seen_before : NamedMarket → List (List ℕ) → ℕ → List ℕ
seen_before n seen k = slice_index_or (replicate (length n.market.pools) 0 ∷ seen) k []

-- the lines of look k, which are numbered from 1
abbrev pub look_lines : NamedMarket → List (List ℕ) → ℕ → List ℕ
look_lines n seen k = seen_lines n (k + 1) (seen_before n seen k) (slice_index_or seen k [])

-- of all looks
abbrev pub looks_text : NamedMarket → List (List ℕ) → List ℕ
looks_text n seen = flat_map (look_lines n seen) (range_with_len 0 (length seen))
