-- Which applicants of the tables those of an amended instance are.
use Rattle.std.specs.Prelude.{ℕ, Bool, List, length, map, nat_lt, if◌then◌else◌, Option, Some, None}
use Rattle.std.specs.List.{range_with_len}
use Rattle.sl_types.specs.declared.kinds.AppId.{AppId}
use Rattle.sl_amend.specs.DraftMarket.{DraftMarket, marked}

-- an applicant's number in the tables, of which there are so many, or none
abbrev pub origin_of : ℕ → ℕ → Option AppId
origin_of of_tables a = if nat_lt a of_tables then Some (record { 0 = a }) else None

-- the same of each who is marked, in order
abbrev pub origins_of_marked : ℕ → List Bool → List (Option AppId)
origins_of_marked of_tables marks = marked marks (map (origin_of of_tables) (range_with_len 0 (length marks)))

-- the same of each applicant of a draft who is present
abbrev pub origins_in : DraftMarket → List (Option AppId)
origins_in draft = origins_of_marked draft.of_tables draft.present
