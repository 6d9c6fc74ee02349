-- The laws of the clearing machine, as statements about one instance. Each is proved of every valid instance.
use Rattle.std.specs.Prelude.{◌≡◌, ◌≢◌, ℕ, ◌<◌, ◌≤◌, Bool, true, List, length, slice_index}
use Rattle.sl_types.specs.declared.kinds.PoolId.{PoolId}
use Rattle.sl_types.specs.declared.kinds.Raise.{Raise}
use Rattle.sl_types.specs.Market.{Market}
use Rattle.sl_laws.specs.Limits.{Limits, effective_limit}
use Rattle.sl_laws.specs.Stable.{IsSettled, IsStable, IsLeastStable}
use Rattle.sl_laws.specs.Raises.{Replays, Proves, without_void}
use Rattle.sl_laws.specs.Laws.{EachPool}
use Rattle.sl_core.specs.declared.kinds.Event.{Event}
use Rattle.sl_core.specs.State.{State, actor_at, start, is_idle}
use Rattle.sl_core.specs.Machine.{may_claim, after_claim, may_read, after_read, may_draw, after_draw, may_raise, after_raising, still_owes, after_mark, Steps, IsQuiet}
use Rattle.sl_core.specs.Dividing.{after_divide, after_unite}
use Rattle.sl_core.specs.Parts.{Everyone, AreInOrder, HasParts}

-- the start from a list that replays has the parts
abbrev pub StartHasParts : Market → Type 0
StartHasParts market =
    (c : List Raise) (others : ℕ) → Replays market c → HasParts market c (start market c others)

-- each kind of step keeps the parts
abbrev pub ClaimKeeps : Market → Type 0
ClaimKeeps market =
    (kept : List Raise) (s : State) (i : ℕ) (Q : PoolId) → HasParts market kept s → i < length s.actors
    → may_claim (actor_at s i) Q.0 ≡ true
    → HasParts market kept (after_claim market s i Q)

abbrev pub ReadKeeps : Market → Type 0
ReadKeeps market =
    (kept : List Raise) (s : State) (i : ℕ) (Q : PoolId) → HasParts market kept s → i < length s.actors
    → may_read market (actor_at s i).phase (actor_at s i) Q.0 ≡ true
    → HasParts market kept (after_read market s i Q)

abbrev pub DrawKeeps : Market → Type 0
DrawKeeps market =
    (kept : List Raise) (s : State) (i x : ℕ) → HasParts market kept s → i < length s.actors
    → may_draw (actor_at s i).phase x ≡ true
    → HasParts market kept (after_draw s i)

abbrev pub RaiseKeeps : Market → Type 0
RaiseKeeps market =
    (kept : List Raise) (s : State) (i : ℕ) → HasParts market kept s → i < length s.actors
    → may_raise (actor_at s i).phase ≡ true
    → HasParts market kept (after_raising market s i)

abbrev pub MarkKeeps : Market → Type 0
MarkKeeps market =
    (kept : List Raise) (s : State) (i : ℕ) (Q : PoolId) → HasParts market kept s → i < length s.actors
    → still_owes (actor_at s i).phase (actor_at s i).owed Q.0 ≡ true
    → HasParts market kept (after_mark s i Q)

-- so does every step
abbrev pub StepKeeps : Market → Type 0
StepKeeps market =
    (kept : List Raise) (s t : State) (event : Event) → HasParts market kept s
    → Steps market s event t
    → HasParts market kept t

-- an actor that divides keeps them
abbrev pub DivideKeeps : Market → Type 0
DivideKeeps market =
    (kept : List Raise) (s : State) (i : ℕ) (bare : Bool) → HasParts market kept s → i < length s.actors
    → HasParts market kept (after_divide market s i bare)

-- and so do two idle actors that become one
abbrev pub UniteKeeps : Market → Type 0
UniteKeeps market =
    (kept : List Raise) (s : State) (i j : ℕ) → HasParts market kept s
    → i < length s.actors → j < length s.actors → i ≢ j
    → is_idle (actor_at s i).phase ≡ true → is_idle (actor_at s j).phase ≡ true
    → HasParts market kept (after_unite market s i j)

-- no limit word of s is above that of t
abbrev pub WordsAreAtMost : State → State → Type 0
WordsAreAtMost s t = (Q : ℕ) → slice_index s.limits Q ≤ slice_index t.limits Q

-- a step lowers no limit word
abbrev pub WordsRise : Market → Type 0
WordsRise market = (s t : State) (event : Event) → Steps market s event t → WordsAreAtMost s t

-- no word, no known number and no read is above l
pub record AreAtMost (s : State) (l : Limits) : Type 0 where
  pub limits : (Q : ℕ) → slice_index s.limits Q ≤ l Q
  pub known : Everyone s (λ a. (Q : ℕ) → slice_index a.known Q ≤ l Q)
  pub reads : Everyone s (λ a. (Q : ℕ) → slice_index a.reads Q ≤ l Q)

-- they pass no stable limit
abbrev pub WordsPassNone : Market → Type 0
WordsPassNone market =
    (kept : List Raise) (s : State) → HasParts market kept s
    → (l : Limits) → IsStable market l → AreAtMost s l

-- only one list has the entries in order of ticket
abbrev pub OrderIsOne : Type 0
OrderIsOne = (s : State) (c d : List Raise) → AreInOrder s c → AreInOrder s d → c ≡ d

-- in a quiet state each pool is settled at the words
abbrev pub QuietIsSettled : Market → Type 0
QuietIsSettled market =
    (kept : List Raise) (s : State) → HasParts market kept s → IsQuiet s
    → EachPool market (IsSettled market (slice_index s.limits))

-- the effective limits of the words
abbrev pub word_limits : Market → State → Limits
word_limits market s = effective_limit market (slice_index s.limits)

-- the entries in order of ticket, without the void ones, prove the effective limits of the words
abbrev pub EntriesProve : Market → State → Type 0
EntriesProve market s =
    (c : List Raise) → AreInOrder s c → Proves market (without_void market c) (word_limits market s)

-- in a quiet state they do
abbrev pub QuietProves : Market → Type 0
QuietProves market =
    (kept : List Raise) (s : State) → HasParts market kept s → IsQuiet s → EntriesProve market s

-- and the effective limits of the words are the least stable ones
abbrev pub QuietIsLeast : Market → Type 0
QuietIsLeast market =
    (kept : List Raise) (s : State) → HasParts market kept s → IsQuiet s
    → IsLeastStable market (word_limits market s)
