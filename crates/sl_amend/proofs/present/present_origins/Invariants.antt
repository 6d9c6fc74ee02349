use Rattle.std.proofs.Common.{◌≡◌, length, map, take}
use Rattle.std.specs.List.{range_with_len}
use Rattle.sl_amend.specs.DraftMarket.{marked}
use Rattle.sl_amend.specs.Origins.{origin_of}
use Rattle.sl_amend.proofs.present.present_origins.Given as goal

-- the origins of those so far who are present
abbrev pub invariant-loop-number : goal.invariant-loop-number
invariant-loop-number l =
    l.origins.items ≡ marked (take l.number l.present) (take l.number (map (origin_of l.of_tables) (range_with_len 0 (length l.present))))
