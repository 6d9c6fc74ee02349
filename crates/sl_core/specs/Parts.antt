-- What holds of the clearing machine between any two steps, part by part.
use Rattle.std.specs.Prelude.{◌≡◌, ◌⊎◌, ℕ, ◌-◌, ◌<◌, ◌≤◌, Bool, true, false, ◌&&◌, List, [], ◌∷◌, ◌++◌, All, length, take, slice_get, slice_index, sum_by, nat_eq, nat_lt, Some}
use Rattle.std.specs.List.{list_any}
use Rattle.sl_types.specs.declared.kinds.Raise.{Raise}
use Rattle.sl_types.specs.declared.kinds.Logged.{Logged}
use Rattle.sl_types.specs.Market.{Market}
use Rattle.sl_laws.specs.Limits.{effective_limit}
use Rattle.sl_laws.specs.Stable.{Feeds, IsSettled}
use Rattle.sl_laws.specs.Raises.{IsSound}
use Rattle.sl_laws.specs.Best.{best_raise}
use Rattle.sl_laws.specs.Laws.{EachPool}
use Rattle.sl_core.specs.declared.kinds.Phase.{Phase}
use Rattle.sl_core.specs.declared.kinds.Phase.TheVariants.{Idle, Working, Ready, Drawn, Owing}
use Rattle.sl_core.specs.State.{Actor, State, has_pool, actor_at}
use Rattle.sl_core.specs.Machine.{is_asked, lacks_read, still_owes}

-- each actor is F, and some actor is
abbrev pub Everyone : State → (Actor → Type 0) → Type 0
Everyone s F = (i : ℕ) → i < length s.actors → F (actor_at s i)

abbrev pub Someone : State → (Actor → Type 0) → Type 0
Someone s F = (i : ℕ) × (i < length s.actors) × F (actor_at s i)

-- each list of an actor, but the log, has an item for each pool
pub record HasSizes (market : Market) (a : Actor) : Type 0 where
  pub known : length a.known ≡ length market.pools
  pub reads : length a.reads ≡ length market.pools
  pub made : length a.made ≡ length market.pools
  pub left : length a.left ≡ length market.pools
  pub owed : length a.owed ≡ length market.pools

-- so have the words and the flags
pub record AreSized (market : Market) (s : State) : Type 0 where
  pub limits : length s.limits ≡ length market.pools
  pub flags : length s.flags ≡ length market.pools
  pub actors : Everyone s (HasSizes market)

-- the raise of a log entry
abbrev pub raise_of : Logged → Raise
raise_of e = record { pool = e.pool; limit = e.limit }

-- whether a log has a raise of P to x
abbrev pub has_raise : ℕ → ℕ → List Logged → Bool
has_raise P x log = list_any (λ e. nat_eq e.pool.0 P && nat_eq e.limit x) log

-- x is 0 or the limit of a logged raise of P
abbrev pub IsLogged : State → ℕ → ℕ → Type 0
IsLogged s P x = (x ≡ 0) ⊎ Someone s (λ a. has_raise P x a.log ≡ true)

-- Each limit word, each known number and each read is 0 or the limit of a logged raise of its pool.
pub record AreLogged (s : State) : Type 0 where
  pub limits : (Q : ℕ) → IsLogged s Q (slice_index s.limits Q)
  pub known : Everyone s (λ a. (Q : ℕ) → IsLogged s Q (slice_index a.known Q))
  pub reads : Everyone s (λ a. (Q : ℕ) → IsLogged s Q (slice_index a.reads Q))

-- 1 for yes, 0 for no
abbrev pub once_if : Bool → ℕ
once_if true = 1
once_if false = 0

-- how often a ticket stands in an actor's log
abbrev pub times : ℕ → Actor → ℕ
times n a = sum_by (λ e. once_if (nat_eq e.ticket n)) a.log

-- a list has the raise of each entry of a log at the entry's ticket
abbrev pub ArePlaced : List Raise → List Logged → Type 0
ArePlaced raises log = All (λ e. slice_get raises e.ticket ≡ Some (raise_of e)) log

-- The tickets of all log entries are the numbers below the ticket number, each once; and the list is that of their
-- raises in order of ticket.
pub record AreInOrder (s : State) (raises : List Raise) : Type 0 where
  pub count : length raises ≡ s.ticket
  pub once : (n : ℕ) → sum_by (times n) s.actors ≡ once_if (nat_lt n s.ticket)
  pub placed : Everyone s (λ a. ArePlaced raises a.log)

-- the list begins with the kept raises
abbrev pub BeginsWith : List Raise → List Raise → Type 0
BeginsWith kept raises = (rest : List Raise) × (raises ≡ kept ++ rest)

-- an actor's log without the entry that waits for its raise
abbrev pub done_log : Phase → List Logged → List Logged
done_log Idle log = log
done_log (Working P) log = log
done_log (Ready P x) log = log
done_log (Drawn P x) log = take (length log - 1) log
done_log (Owing P) log = log

-- each entry of a log is at most its pool's word
abbrev pub IsRaised : List ℕ → List Logged → Type 0
IsRaised limits log = All (λ e. e.limit ≤ slice_index limits e.pool.0) log

-- Each log entry is at most its pool's word, except the newest entry of an actor that is Drawn.
abbrev pub AreRaised : State → Type 0
AreRaised s = Everyone s (λ a. IsRaised s.limits (done_log a.phase a.log))

-- what an actor knows of a pool is at most the word, and what it read is at most what it knows
abbrev pub KnowsNoMore : List ℕ → Actor → ℕ → Type 0
KnowsNoMore limits a Q =
    (slice_index a.known Q ≤ slice_index limits Q) × (slice_index a.reads Q ≤ slice_index a.known Q)

-- What an actor knows is at most the word, and each read is at most what the actor knows of that pool.
abbrev pub AreKnown : State → Type 0
AreKnown s = Everyone s (λ a. (Q : ℕ) → KnowsNoMore s.limits a Q)

-- whether an actor has claimed Q and its raise is still to come: it is Working, Ready or Drawn on it
abbrev pub has_in_hand : ℕ → Phase → Bool
has_in_hand Q Idle = false
has_in_hand Q (Working P) = nat_eq P.0 Q
has_in_hand Q (Ready P x) = nat_eq P.0 Q
has_in_hand Q (Drawn P x) = nat_eq P.0 Q
has_in_hand Q (Owing P) = false

-- an actor has Q in hand, and all its reads so far of pools that feed Q equal the words; of Q itself nothing is asked
pub record IsFresh (market : Market) (limits : List ℕ) (Q : ℕ) (a : Actor) : Type 0 where
  pub in_hand : has_in_hand Q a.phase ≡ true
  pub equal :
      (R : ℕ) → R < length market.pools → Feeds market R Q → has_pool a.made R ≡ true
      → slice_index a.reads R ≡ slice_index limits R

-- Q's flag is up, or some actor owes it a mark, or some actor has fresh reads for it, or it is settled at the words
abbrev pub IsCovered : Market → State → ℕ → Type 0
IsCovered market s Q =
    (has_pool s.flags Q ≡ true)
    ⊎ (Someone s (λ a. still_owes a.phase a.owed Q ≡ true)
    ⊎ (Someone s (IsFresh market s.limits Q)
    ⊎ IsSettled market (slice_index s.limits) Q))

-- Each pool is covered.
abbrev pub AreCovered : Market → State → Type 0
AreCovered market s = EachPool market (IsCovered market s)

-- Each pool whose flag is up is left to scan for some actor.
abbrev pub AreLeft : Market → State → Type 0
AreLeft market s =
    EachPool market (λ Q. has_pool s.flags Q ≡ true → Someone s (λ a. has_pool a.left Q ≡ true))

-- P is a pool, and the reads are of it or of pools that feed it; what isn't read counts as 0
pub record IsReading (market : Market) (a : Actor) (P : ℕ) : Type 0 where
  pub within : P < length market.pools
  pub asked : (Q : ℕ) → has_pool a.made Q ≡ true → is_asked market P Q ≡ true
  pub unread : (Q : ℕ) → has_pool a.made Q ≡ false → slice_index a.reads Q ≡ 0

-- all these reads are made, and x is the greatest justified raise at them, above the effective limit at them
pub record HasFound (market : Market) (a : Actor) (P x : ℕ) : Type 0 where
  pub reading : IsReading market a P
  pub all : lacks_read market P a.made ≡ false
  pub best : x ≡ best_raise market (slice_index a.reads) P
  pub above : effective_limit market (slice_index a.reads) P < x

-- the newest entry of a log is this raise
abbrev pub EndsIn : List Logged → Raise → Type 0
EndsIn log r = (before : List Logged) × (e : Logged) × (log ≡ before ++ e ∷ []) × (raise_of e ≡ r)

-- what each phase says of its actor
abbrev pub FitsPhase : Market → Actor → Phase → Type 0
FitsPhase market a Idle = Unit {0}
FitsPhase market a (Working P) = IsReading market a P.0
FitsPhase market a (Ready P x) = HasFound market a P.0 x
FitsPhase market a (Drawn P x) = HasFound market a P.0 x × EndsIn a.log (record { pool = P; limit = x })
FitsPhase market a (Owing P) = P.0 < length market.pools

-- Each actor is as its phase says.
abbrev pub AreInPhase : Market → State → Type 0
AreInPhase market s = Everyone s (λ a. FitsPhase market a a.phase)

-- All the parts. The entries in order of ticket make a sound list, of which the kept raises are the front.
pub record HasParts (market : Market) (kept : List Raise) (s : State) : Type 0 where
  pub raises : List Raise
  pub sized : AreSized market s
  pub logged : AreLogged s
  pub in_order : AreInOrder s raises
  pub sound : IsSound market raises
  pub front : BeginsWith kept raises
  pub raised : AreRaised s
  pub known : AreKnown s
  pub covered : AreCovered market s
  pub left : AreLeft market s
  pub in_phase : AreInPhase market s
