-- The clearing machine's states, and where it starts.
-- Pools are known by their numbers. A list of flags, one for each pool, stands for the pools whose flag is up.
use Rattle.std.specs.Prelude.{ℕ, ◌+◌, Bool, true, false, List, [], ◌∷◌, length, map, get_or, replicate}
use Rattle.sl_types.specs.declared.kinds.Raise.{Raise}
use Rattle.sl_types.specs.declared.kinds.Logged.{Logged}
use Rattle.sl_types.specs.Market.{Market, pool_numbers}
use Rattle.sl_laws.specs.Raises.{limits_after}
use Rattle.sl_core.specs.declared.kinds.Phase.{Phase}
use Rattle.sl_core.specs.declared.kinds.Phase.TheVariants.{Idle, Working, Ready, Drawn, Owing}

-- What an actor has in hand, the words that it knows, its reads and the pools whose reads are made, the pools left to
-- scan, the pools to which it owes a mark, and its log, oldest entry first. Each list but the log has an item for each
-- pool. Reads are of the last pool that it claimed; what it owes counts in phase Owing alone.
pub record Actor : Type 0 where
  pub phase : Phase
  pub known : List ℕ
  pub reads : List ℕ
  pub made : List Bool
  pub left : List Bool
  pub owed : List Bool
  pub log : List Logged

-- a limit word and a flag for each pool, the ticket number, and the actors
pub record State : Type 0 where
  pub limits : List ℕ
  pub flags : List Bool
  pub ticket : ℕ
  pub actors : List Actor

-- an instance, and a state of its machine
pub record Run : Type 0 where
  pub market : Market
  pub state : State

-- whether a pool is among those whose flag is up; a number that is no pool's isn't
abbrev pub has_pool : List Bool → ℕ → Bool
has_pool flags Q = get_or flags Q false

-- 0 for each pool
abbrev pub no_limits : Market → List ℕ
no_limits market = replicate (length market.pools) 0

-- none of the pools
abbrev pub no_pools : Market → List Bool
no_pools market = replicate (length market.pools) false

-- each of the pools
abbrev pub all_pools : Market → List Bool
all_pools market = replicate (length market.pools) true

-- an idle actor, with no reads and no mark owed
abbrev pub idle_actor : Market → List ℕ → List Bool → List Logged → Actor
idle_actor market known left log = record {
  phase = Idle;
  known = known;
  reads = no_limits market;
  made = no_pools market;
  left = left;
  owed = no_pools market;
  log = log;
}

-- an idle actor that knows each of so many words as 0, and has every pool left to scan
abbrev pub unread_actor : ℕ → Actor
unread_actor pools = record {
  phase = Idle;
  known = replicate pools 0;
  reads = replicate pools 0;
  made = replicate pools false;
  left = replicate pools true;
  owed = replicate pools false;
  log = [];
}

-- what stands at a number that is no actor's
abbrev pub nobody : Actor
nobody = record { phase = Idle; known = []; reads = []; made = []; left = []; owed = []; log = [] }

-- the actor of a number
abbrev pub actor_at : State → ℕ → Actor
actor_at s i = get_or s.actors i nobody

-- the raises of a list as log entries, with tickets from n on
abbrev pub logged_from : ℕ → List Raise → List Logged
logged_from n [] = []
logged_from n (r ∷ rs) = record { ticket = n; pool = r.pool; limit = r.limit } ∷ logged_from (n + 1) rs

-- the limit words that a list of raises reaches
abbrev pub words_after : Market → List Raise → List ℕ
words_after market c = map (limits_after c) (pool_numbers market)

-- an idle actor at the start from a list: it knows the words, and has every pool left to scan
abbrev pub first_actor : Market → List Raise → List Logged → Actor
first_actor market c log = idle_actor market (words_after market c) (all_pools market) log

-- The start from a list that replays, with so many actors beside the first. The words are what the list reaches, every
-- flag is up, the next ticket is the list's length, and the first actor has the list in its log, with tickets from 0.
abbrev pub start : Market → List Raise → ℕ → State
start market c others = record {
  limits = words_after market c;
  flags = all_pools market;
  ticket = length c;
  actors = first_actor market c (logged_from 0 c) ∷ replicate others (first_actor market c []);
}

-- whether an actor has nothing in hand
abbrev pub is_idle : Phase → Bool
is_idle Idle = true
is_idle (Working P) = false
is_idle (Ready P x) = false
is_idle (Drawn P x) = false
is_idle (Owing P) = false
