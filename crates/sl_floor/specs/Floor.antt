-- Seats of a floor, and what each call does to one.
use Rattle.std.specs.Prelude.{◌≡◌, ℕ, ◌+◌, ◌-◌, ◌/◌, ◌<◌, ◌≤◌, Bool, true, false, not, min, List, [], ◌∷◌, ◌++◌, length, get_or, set, replicate, slice_index, nat_eq}
use Rattle.sl_types.specs.declared.kinds.PoolId.{PoolId}
use Rattle.sl_types.specs.declared.kinds.Raise.{Raise}
use Rattle.sl_types.specs.declared.kinds.Logged.{Logged}
use Rattle.sl_types.specs.Market.{Market}
use Rattle.sl_laws.specs.Limits.{Limits}
use Rattle.sl_laws.specs.Stable.{IsStable}
use Rattle.sl_core.specs.declared.kinds.Phase.{Phase}
use Rattle.sl_core.specs.declared.kinds.Phase.TheVariants.{Idle, Working, Ready, Drawn, Owing}
use Rattle.sl_core.specs.State.{Actor, nobody, idle_actor, logged_from, words_after, all_pools, is_idle}
use Rattle.sl_core.specs.Machine.{may_claim, actor_after_claim, may_read, actor_after_read, may_draw, actor_after_draw, may_raise, actor_after_raise, still_owes, actor_after_mark, has_any}
use Rattle.sl_core.specs.Dividing.{actor_divided_off, actor_of_both}
use Rattle.atomic_table.specs.Seated.{TableId}
use Rattle.sl_floor.specs.declared.shares.TheConstants.{WHOLE_SHARE, FIRST_ALLOWANCE}

-- what a seat is: an actor of the machine, its share of the floor, how many tickets it may still
-- draw, the word that its last raise found, how many steps it made on each word, and the instance
-- and the kept raises of its floor
pub record Sitting : Type 0 where
  pub actor : Actor
  pub share : ℕ
  pub allowance : ℕ
  pub found : ℕ
  pub steps : List ℕ
  pub market : Market
  pub kept : List Raise

-- a floor, and a seat with its log in memory and the room of that log, as contracts see them
pub record FloorValue : Type 0 where
  pub table : TableId
  pub market : Market
  pub kept : List Raise

pub record SeatValue : Type 0 where
  pub table : TableId
  pub id : ℕ
  pub view : Sitting
  pub log : List Logged
  pub room : ℕ

-- the memory of a further seat, as contracts see it: for how many pools, and the room of its log
pub record BlankValue : Type 0 where
  pub pools : ℕ
  pub room : ℕ

-- a seat of this floor
pub record IsOf (floor : FloorValue) (seat : SeatValue) : Type 0 where
  pub table : seat.table ≡ floor.table
  pub market : seat.view.market ≡ floor.market
  pub kept : seat.view.kept ≡ floor.kept
  pub shares : 0 < seat.view.share

-- how many words the table of a market has: the ticket number, a limit and a flag for each pool
abbrev pub word_count : Market → ℕ
word_count market = length market.pools + length market.pools + 1

-- the word with a pool's limit
abbrev pub limit_place : ℕ → ℕ
limit_place Q = Q + 1

-- the word with a pool's flag, which has a word of its own
abbrev pub flag_place : Market → ℕ → ℕ
flag_place market Q = length market.pools + 1 + Q

-- whether a flag's word says that the flag is up
abbrev pub is_up : ℕ → Bool
is_up word = not (nat_eq word 0)

-- a pool's flag among the words of a table
abbrev pub flag_of : Market → List ℕ → ℕ → Bool
flag_of market words Q = is_up (get_or words (flag_place market Q) 0)

-- the words of a table that opens: the ticket number, these limits, and every flag up
abbrev pub opening_words : ℕ → List ℕ → List ℕ
opening_words ticket limits = ticket ∷ (limits ++ replicate (length limits) 1)

-- one more step on a word
abbrev pub step_on : ℕ → List ℕ → List ℕ
step_on i steps = set steps i (get_or steps i 0 + 1)

-- the first seat
abbrev pub first_view : Market → List Raise → Sitting
first_view market kept = record {
  actor = idle_actor market (words_after market kept) (all_pools market) (logged_from 0 kept);
  share = WHOLE_SHARE;
  allowance = FIRST_ALLOWANCE;
  found = 0;
  steps = replicate (word_count market) 0;
  market = market;
  kept = kept;
}

-- a seat after a claim of Q that found its flag up or down
abbrev pub claim_view : Sitting → PoolId → Bool → Sitting
claim_view v Q up = record v {
  actor = actor_after_claim v.market up v.actor Q;
  steps = step_on (flag_place v.market Q.0) v.steps;
}

-- after a read of Q that found this word
abbrev pub read_view : Sitting → ℕ → ℕ → Sitting
read_view v Q word = record v {
  actor = actor_after_read v.market v.actor.phase v.actor Q word;
  steps = step_on (limit_place Q) v.steps;
}

-- after a draw of this ticket
abbrev pub draw_view : Sitting → ℕ → Sitting
draw_view v ticket = record v {
  actor = actor_after_draw v.actor.phase v.actor ticket;
  allowance = v.allowance - 1;
  steps = step_on 0 v.steps;
}

-- after a raise of P to x that found this word
abbrev pub raise_view : Sitting → PoolId → ℕ → ℕ → Sitting
raise_view v P x word = record v {
  actor = actor_after_raise v.market P x v.actor word;
  found = word;
  steps = step_on (limit_place P.0) v.steps;
}

-- after the raise that is drawn
abbrev pub raise_in_hand : Phase → Sitting → ℕ → Sitting
raise_in_hand Idle v word = v
raise_in_hand (Working P) v word = v
raise_in_hand (Ready P x) v word = v
raise_in_hand (Drawn P x) v word = raise_view v P x word
raise_in_hand (Owing P) v word = v

-- after a mark of Q
abbrev pub mark_view : Sitting → ℕ → Sitting
mark_view v Q = record v {
  actor = actor_after_mark v.actor Q;
  steps = step_on (flag_place v.market Q) v.steps;
}

-- what stays and what goes where a seat is split
abbrev pub stay_view : Sitting → Sitting
stay_view v = record v {
  share = v.share - v.share / 2;
  allowance = v.allowance - v.allowance / 2;
  steps = step_on 0 v.steps;
}

abbrev pub go_view : Bool → Sitting → Sitting
go_view bare v = record v {
  actor = actor_divided_off v.market v.actor bare;
  share = v.share / 2;
  allowance = v.allowance / 2;
  found = 0;
  steps = replicate (word_count v.market) 0;
}

-- Two seats as one. The shares of a floor add up to the whole share, and its allowances to at most
-- the first, so the lesser numbers here are the sums.
abbrev pub both_view : Sitting → Sitting → Sitting
both_view v w = record v {
  actor = actor_of_both v.actor w.actor;
  share = min (v.share + w.share) WHOLE_SHARE;
  allowance = min (v.allowance + w.allowance) FIRST_ALLOWANCE;
  steps = step_on 0 v.steps;
}

-- what is left of a seat that was joined into another
abbrev pub spent_view : Sitting
spent_view = record {
  actor = nobody;
  share = 0;
  allowance = 0;
  found = 0;
  steps = [];
  market = record { pools = []; progs = []; lists = [] };
  kept = [];
}

-- a log in memory after a draw of this ticket for the raise that is ready
abbrev pub log_with : Phase → ℕ → List Logged → List Logged
log_with Idle ticket log = log
log_with (Working P) ticket log = log
log_with (Ready P x) ticket log = log ++ record { ticket = ticket; pool = P; limit = x } ∷ []
log_with (Drawn P x) ticket log = log
log_with (Owing P) ticket log = log

-- a seat after a draw of this ticket
abbrev pub seat_after_draw : SeatValue → ℕ → SeatValue
seat_after_draw seat ticket = record seat {
  view = draw_view seat.view ticket;
  log = log_with seat.view.actor.phase ticket seat.log;
}

-- a seat after its raise, which found this word
abbrev pub seat_after_raise : SeatValue → ℕ → SeatValue
seat_after_raise seat word =
    record seat { view = raise_in_hand seat.view.actor.phase seat.view word }

-- what a seat may do: the tests of the machine
abbrev pub IsIdle : SeatValue → Type 0
IsIdle seat = is_idle seat.view.actor.phase ≡ true

abbrev pub CanClaim : SeatValue → ℕ → Type 0
CanClaim seat Q = may_claim seat.view.actor Q ≡ true

abbrev pub CanRead : FloorValue → SeatValue → ℕ → Type 0
CanRead floor seat Q = may_read floor.market seat.view.actor.phase seat.view.actor Q ≡ true

abbrev pub CanDraw : SeatValue → ℕ → Type 0
CanDraw seat x = may_draw seat.view.actor.phase x ≡ true

abbrev pub CanRaise : SeatValue → Type 0
CanRaise seat = may_raise seat.view.actor.phase ≡ true

abbrev pub OwesMark : SeatValue → ℕ → Type 0
OwesMark seat Q = still_owes seat.view.actor.phase seat.view.actor.owed Q ≡ true

-- a word isn't above a stable limit of the pool whose raise is drawn
abbrev pub IsLowInHand : Market → SeatValue → ℕ → Type 0
IsLowInHand market seat word =
    (P : PoolId) (x : ℕ) → seat.view.actor.phase ≡ Drawn P x
    → (l : Limits) → IsStable market l → word ≤ l P.0

-- no pool is left to scan
abbrev pub HasNoneLeft : SeatValue → Type 0
HasNoneLeft seat = has_any seat.view.actor.left ≡ false

-- what a seat knows of a pool didn't fall
abbrev pub KnowsMore : SeatValue → SeatValue → Type 0
KnowsMore before after =
    (Q : ℕ) → slice_index before.view.actor.known Q ≤ slice_index after.view.actor.known Q
