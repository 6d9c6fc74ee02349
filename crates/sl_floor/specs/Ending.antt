-- What is left of a floor that is closed, and what its words and its log say.
use Rattle.std.specs.Prelude.{◌≡◌, ℕ, List, length, sum_by, slice_index, nat_eq, nat_lt}
use Rattle.sl_types.specs.declared.kinds.Raise.{Raise}
use Rattle.sl_types.specs.declared.kinds.Logged.{Logged}
use Rattle.sl_types.specs.Market.{Market}
use Rattle.sl_laws.specs.Limits.{effective_limit}
use Rattle.sl_laws.specs.Stable.{IsSettled, IsLeastStable}
use Rattle.sl_laws.specs.Raises.{IsSound, Proves, without_void}
use Rattle.sl_laws.specs.Laws.{EachPool}
use Rattle.sl_core.specs.State.{words_after}
use Rattle.sl_core.specs.Parts.{once_if, ArePlaced, BeginsWith}

-- the instance and the kept raises of a floor, the limit words that were written, and the whole log
-- of the last seat
pub record Closing : Type 0 where
  pub market : Market
  pub kept : List Raise
  pub words : List ℕ
  pub log : List Logged

-- a log has the raises of a list at their tickets: each ticket below the list's length once, and no
-- other raise
pub record IsOrdered (log : List Logged) (raises : List Raise) : Type 0 where
  pub once :
      (n : ℕ) → sum_by (λ e. once_if (nat_eq e.ticket n)) log ≡ once_if (nat_lt n (length raises))
  pub placed : ArePlaced raises log

-- in order of ticket a log is a sound list that begins with the kept raises and reaches the words
pub record IsWholeLog (end : Closing) : Type 0 where
  pub raises : List Raise
  pub ordered : IsOrdered end.log raises
  pub sound : IsSound end.market raises
  pub front : BeginsWith end.kept raises
  pub reached : end.words ≡ words_after end.market raises

-- every pool is settled at the words
abbrev pub AreSettled : Closing → Type 0
AreSettled end = EachPool end.market (IsSettled end.market (slice_index end.words))

-- the effective limits of the words are the least stable ones
abbrev pub ReachesLeast : Closing → Type 0
ReachesLeast end = IsLeastStable end.market (effective_limit end.market (slice_index end.words))

-- the log in order of ticket, without the void raises, proves them
abbrev pub IsProved : Closing → Type 0
IsProved end =
    (raises : List Raise) → IsOrdered end.log raises
    → Proves end.market (without_void end.market raises)
    (effective_limit end.market (slice_index end.words))
