-- The laws of a worker's turns, as statements about plain numbers.
use Rattle.std.specs.Prelude.{◌≡◌, ◌⊎◌, ℕ, ◌+◌, ◌*◌, ◌<◌, ◌≤◌, Bool, List, length}
use Rattle.sl_types.specs.declared.kinds.TheConstants.{MAX_SCORE}
use Rattle.sl_floor.specs.Held.{AreLimits}
use Rattle.sl_desk.specs.Turns.{room_above, count_left, turns_within}
use Rattle.sl_desk.specs.Turns.{RisesBy, IsScanned, IsQuietTurn, IsRaisingTurn}

-- a turn without a raise leaves fewer pools
abbrev pub ScanFalls : Type 0
ScanFalls =
    (left after : List Bool) (P : ℕ) → IsScanned left after P → count_left after < count_left left

-- each raise takes from the room above what is known
abbrev pub RoomFalls : Type 0
RoomFalls =
    (known later : List ℕ) (n : ℕ) → AreLimits known → RisesBy known later n
    → room_above later + n ≤ room_above known

-- so there are at most as many raises as the greatest limit times the pools
abbrev pub RaisesHaveTop : Type 0
RaisesHaveTop =
    (known later : List ℕ) (n : ℕ) → AreLimits known → RisesBy known later n
    → n ≤ length known * (MAX_SCORE + 1)

-- fewer raises to come, or no more and fewer pools left, are fewer turns to come
abbrev pub TurnsFall : Type 0
TurnsFall =
    (a b : ℕ) (left after : List Bool) → length after ≡ length left
    → (b < a) ⊎ ((b ≤ a) × (count_left after < count_left left))
    → turns_within b after < turns_within a left

-- with each turn fewer are to come
abbrev pub QuietTurnFalls : Type 0
QuietTurnFalls =
    (known later : List ℕ) (left after : List Bool) (P : ℕ) → AreLimits known
    → IsQuietTurn known later left after P
    → turns_within (room_above later) after < turns_within (room_above known) left

abbrev pub RaisingTurnFalls : Type 0
RaisingTurnFalls =
    (known later : List ℕ) (left after : List Bool) → AreLimits known
    → IsRaisingTurn known later left after
    → turns_within (room_above later) after < turns_within (room_above known) left

-- what is known after two spans of turns
abbrev pub KnowsOn : Type 0
KnowsOn =
    (known later last : List ℕ) (m n : ℕ) → RisesBy known later m → RisesBy later last n
    → RisesBy known last (m + n)
